pub mod LevelLemmas
pub mod ShiftLemmas
pub mod BlankLemmas
pub mod BlankTexts
