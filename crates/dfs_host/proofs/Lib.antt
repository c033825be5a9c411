pub mod Causes
pub mod Files
pub mod Moments
mod Rows
