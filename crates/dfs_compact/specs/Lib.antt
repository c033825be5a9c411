pub mod Compaction
pub mod Parts
