pub mod Limits
pub mod Number
pub mod Blanks
pub mod Size
pub mod Pattern
