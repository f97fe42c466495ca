pub mod Classes
pub mod Pieces
pub mod Fits
pub mod Globs
pub mod Lines
pub mod Rules
