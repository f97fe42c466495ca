pub mod Answered
pub mod Comments
pub mod Fields
pub mod Literals
pub mod Numbers
pub mod Quotes
pub mod Texts
pub mod Units
