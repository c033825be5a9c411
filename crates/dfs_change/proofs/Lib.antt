pub mod Maps
pub mod Bools
pub mod Fits
pub mod Ended
pub mod Checks
pub mod Meant
mod Rows
pub mod Opened
