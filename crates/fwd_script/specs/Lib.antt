pub mod Words
pub mod Keywords
pub mod Table
pub mod Schedule
pub mod Text
pub mod Writable
