pub mod Shallow
pub mod Ranges
