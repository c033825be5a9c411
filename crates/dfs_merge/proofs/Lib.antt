pub mod Firsts
pub mod Taking
pub mod Passing
pub mod Matches
