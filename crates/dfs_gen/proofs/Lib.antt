pub mod Counting
mod Lines
mod Moved
mod Rows
pub mod Sizes
