pub mod Counting
pub mod Covering
pub mod Cutting
pub mod Ranges
pub mod Rounds
pub mod Sorted
pub mod Staying
