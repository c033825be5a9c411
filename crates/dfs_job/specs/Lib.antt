pub mod Job
pub mod Stands
pub mod Applied
pub mod Sealed
pub mod Parted
