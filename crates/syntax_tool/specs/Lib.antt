pub mod Escapes
pub mod Lines
pub mod Needless
pub mod Output
pub mod Requests
