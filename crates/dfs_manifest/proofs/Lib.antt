pub mod Tables
pub mod Manifests
