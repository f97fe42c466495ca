pub mod SpotLemmas
pub mod EditLemmas
pub mod MappingLemmas
pub mod NoteLemmas
pub mod RunLemmas
