pub mod Kinds
pub mod KindText
pub mod KindLaws
