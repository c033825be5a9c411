pub mod Bounds
mod Plans
mod Rows
