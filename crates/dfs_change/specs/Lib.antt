pub mod Identities
pub mod Whole
pub mod Checks
pub mod Meant
pub mod Sealing
