pub mod Pass
pub mod Order
pub mod Offsets
pub mod Undo
pub mod Empty
pub mod Applied
pub mod Kept
