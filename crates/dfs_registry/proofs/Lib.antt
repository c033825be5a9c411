mod Bodies
mod Commit
mod Following
mod Gates
mod Jobs
mod Names
mod Numbers
mod Parsing
mod Pieces
mod ReadBack
mod Rows
mod Spelling
mod Steps
mod Writes
pub mod Standing
