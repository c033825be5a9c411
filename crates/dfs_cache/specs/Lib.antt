pub mod Ends
pub mod Latest
pub mod Runs
