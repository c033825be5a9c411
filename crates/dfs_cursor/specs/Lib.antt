pub mod Either
pub mod Ranges
pub mod Slices
