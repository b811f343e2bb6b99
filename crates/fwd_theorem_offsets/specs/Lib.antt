pub mod Passed
pub mod KeptFiles
