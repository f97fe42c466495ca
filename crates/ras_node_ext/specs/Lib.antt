pub mod Path
pub mod Attrs
pub mod Metas
pub mod TokenTrees
pub mod Bounds
pub mod NodeParts
pub mod Slices
