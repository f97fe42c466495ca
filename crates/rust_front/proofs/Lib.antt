pub mod Wholes
pub mod Tops
pub mod Windows
pub mod Reports
