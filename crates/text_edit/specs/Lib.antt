pub mod Replacements
pub mod Inverse
pub mod Merge
pub mod Empty
pub mod Applied
