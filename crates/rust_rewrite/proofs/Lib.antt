pub mod ArrowLemmas
pub mod CommentLemmas
pub mod EditLemmas
pub mod LossLemmas
