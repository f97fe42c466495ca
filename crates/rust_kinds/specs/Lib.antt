pub mod Names
pub mod Keywords
pub mod Contextual
pub mod Strict
