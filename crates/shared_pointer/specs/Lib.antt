pub mod SharedOwnership
pub mod SharedPlace
