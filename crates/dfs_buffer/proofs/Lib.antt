pub mod Rising
pub mod Places
pub mod Edits
pub mod Puts
pub mod Parts
