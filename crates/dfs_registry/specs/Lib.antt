pub mod Body
pub mod Reading
pub mod Seen
pub mod Standing
pub mod Opening
