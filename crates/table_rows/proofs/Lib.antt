pub mod Alone
pub mod Each
