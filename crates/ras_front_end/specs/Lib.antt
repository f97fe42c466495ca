pub mod ErrorModel
pub mod ErrorEquality
pub mod Reading
pub mod Balanced
pub mod Keeps
pub mod Front
pub mod Parsed
pub mod TreeEvent
