pub mod Laid
pub mod Answers
pub mod Report
pub mod Balance
