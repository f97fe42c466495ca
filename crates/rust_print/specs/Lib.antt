pub mod Readings
pub mod Results
pub mod Styles
