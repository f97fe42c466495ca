pub mod Reading
pub mod Turns
pub mod Cutting
pub mod Steps
pub mod Kept
pub mod Fronts
pub mod RawFronts
pub mod CommentFronts
pub mod NumberFronts
pub mod NameFronts
pub mod QuoteFronts
mod Bytes
mod Plain
mod Counts
