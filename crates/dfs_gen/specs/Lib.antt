pub mod GenSource
pub mod Line
pub mod Script
pub mod Summary
