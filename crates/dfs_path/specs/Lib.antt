pub mod Cut
pub mod Escape
pub mod Op
pub mod Path
pub mod Read
