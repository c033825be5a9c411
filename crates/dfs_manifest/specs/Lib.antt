pub mod Manifest
pub mod Tables
