pub mod Answers
pub mod Sights
pub mod Reports
pub mod Front
pub mod Laws
