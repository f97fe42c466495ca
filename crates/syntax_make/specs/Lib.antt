pub mod Places
pub mod Failures
pub mod Made
pub mod Forms
pub mod Replaced
pub mod Operands
