pub mod FirstCast
pub mod NodeWalks
pub mod Steps
pub mod ViewLists
