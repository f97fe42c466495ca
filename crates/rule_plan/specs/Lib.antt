pub mod Severities
pub mod Answers
