pub mod Messages
pub mod Rules
pub mod Seeing
pub mod Tables
