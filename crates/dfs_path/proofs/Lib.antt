pub mod Cuts
pub mod Escapes
pub mod Joined
pub mod Paths
mod Printed
mod Readback
mod Rows
