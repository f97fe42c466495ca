pub mod Pushed
pub mod KindFacts
pub mod Nothing
pub mod LastToken
pub mod CastEdge
pub mod Agree
pub mod Precedences
pub mod Headline
