pub mod Applied
pub mod Op
pub mod Plan
pub mod Within
