pub mod Cuts
pub mod EscapeLemmas
pub mod LineLemmas
pub mod ReadLemmas
pub mod OutputLemmas
pub mod DraftLemmas
pub mod Asked
