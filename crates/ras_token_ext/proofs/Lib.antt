pub mod Boundaries
pub mod CharCalls
pub mod IntValues
pub mod Plain
pub mod TextValues
pub mod UnitRanges
pub mod ValueTexts
