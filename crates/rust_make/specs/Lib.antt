pub mod Makes
pub mod Tokens
