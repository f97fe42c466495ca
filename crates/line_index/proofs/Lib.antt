pub mod LineLemmas
pub mod StartLemmas
pub mod WideLemmas
