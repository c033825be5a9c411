pub mod Sources
pub mod Rank
pub mod Laws
pub mod Tree
