pub mod Decimals
pub mod KindLaws
pub mod KindTable
pub mod Names
