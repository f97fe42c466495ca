pub mod Macros
pub mod Reports
