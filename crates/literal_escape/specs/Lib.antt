pub mod Literal
pub mod Messages
pub mod Pieces
pub mod Reading
