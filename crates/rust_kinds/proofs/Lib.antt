pub mod Rows
pub mod Table
pub mod KindNames
pub mod Utf8
mod Words
mod Groups
