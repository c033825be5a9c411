pub mod Spelled
pub mod Rising
pub mod Blocks
pub mod Reading
pub mod Building
