pub mod Level
pub mod Shifted
pub mod Others
