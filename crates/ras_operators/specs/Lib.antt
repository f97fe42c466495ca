pub mod OperatorTexts
pub mod Levels
