pub mod Block
pub mod Built
pub mod Front
pub mod Left
pub mod Read
