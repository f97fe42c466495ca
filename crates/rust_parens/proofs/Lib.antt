pub mod TriedLemmas
pub mod AloneLemmas
pub mod MarkLemmas
