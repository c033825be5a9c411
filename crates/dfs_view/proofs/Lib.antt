pub mod Adding
pub mod Finding
pub mod Listing
pub mod Parts
