pub mod Walks
pub mod Plain
pub mod RowLemmas
pub mod NameLemmas
