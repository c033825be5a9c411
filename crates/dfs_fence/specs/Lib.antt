pub mod Cover
pub mod Index
pub mod Places
pub mod Points
pub mod Ranges
pub mod Reading
pub mod Spelled
