pub mod EitherCases
pub mod KindSets
pub mod Lookups
pub mod Nodes
pub mod Searches
pub mod Sets
pub mod PartSets
