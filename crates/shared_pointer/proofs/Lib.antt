pub mod BySelf
pub mod SharedBlock
pub mod SharedInvariant
pub mod SharedLending
pub mod SharedSteps
pub mod SharedTickets
pub mod Turns
