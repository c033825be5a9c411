pub mod Spelled
pub mod Fields
pub mod Orders
pub mod Apart
pub mod Finding
pub mod Indexes
pub mod Parsing
pub mod Placing
