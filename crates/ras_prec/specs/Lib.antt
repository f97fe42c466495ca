pub mod Order
pub mod Rules
pub mod Headline
