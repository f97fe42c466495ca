pub mod Exposed
pub mod Rewrites
pub mod Rules
