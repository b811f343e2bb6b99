pub mod Steps
pub mod Pushes
pub mod Programs
pub mod Outcomes
pub mod Links
pub mod Turns
