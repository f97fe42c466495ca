pub mod AnyStringCases
pub mod AnyStringValues
pub mod CommentKinds
pub mod LiteralShapes
