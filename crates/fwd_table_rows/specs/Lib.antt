pub mod Routes
pub mod Rows
pub mod Changes
pub mod Usage
pub mod Sums
pub mod Slots
