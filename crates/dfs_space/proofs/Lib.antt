pub mod Causes
mod Entries
pub mod Reading
pub mod Spans
mod Stored
