pub mod PartsLaw
pub mod Sorting
