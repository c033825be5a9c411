pub mod Children
pub mod PlainSpace
pub mod Space
pub mod Span
