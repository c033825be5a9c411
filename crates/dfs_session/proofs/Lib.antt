mod Lists
mod Uses
mod Begun
mod Numbered
mod Values
mod Images
mod Opening
mod Faults
mod Jobs
pub mod Kept
mod Handed
mod Looking
pub mod Writing
mod Working
mod Changing
mod Selecting
mod Taking
mod Reading
mod Places
mod Beginning
mod Publishing
mod Choosing
pub mod Runs
mod Single
pub mod Alone
pub mod Rooms
mod Sealing
