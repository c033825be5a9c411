pub mod Apart
pub mod Children
pub mod Going
pub mod Layers
pub mod Lists
pub mod Sources
pub mod View
