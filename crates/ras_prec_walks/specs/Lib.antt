pub mod Along
pub mod Turns
pub mod Parts
pub mod Inside
pub mod Above
pub mod CastName
