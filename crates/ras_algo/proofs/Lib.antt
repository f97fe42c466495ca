pub mod CommonAncestors
pub mod Deepest
pub mod Merging
pub mod PointerCasts
pub mod SiblingLists
pub mod TokensAround
