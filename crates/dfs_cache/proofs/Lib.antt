pub mod Keys
pub mod Pairs
pub mod Runs
pub mod Valid
