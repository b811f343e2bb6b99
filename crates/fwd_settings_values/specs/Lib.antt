pub mod Number
pub mod Text
pub mod Types
pub mod Statuses
pub mod Rule
pub mod Words
