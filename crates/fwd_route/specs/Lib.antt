pub mod Glob
pub mod GlobTest
pub mod NextStep
