pub mod SpotLemmas
pub mod Kept
pub mod StepLemmas
pub mod MarkLemmas
pub mod WordLemmas
pub mod TextsLemmas
pub mod EscapesLemmas
pub mod AskedLemmas
pub mod ChangesLemmas
pub mod RolesLemmas
pub mod LabelsLemmas
pub mod NumbersLemmas
mod DepthLemmas
