pub mod Kinds
pub mod Lookups
pub mod Messages
pub mod Rules
pub mod Violations
pub mod Plain
pub mod Rows
