pub mod Manifest
pub mod Paths
pub mod Targets
