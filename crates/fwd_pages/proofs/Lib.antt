pub mod Elements
pub mod Counts
