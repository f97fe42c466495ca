pub mod TextRange
