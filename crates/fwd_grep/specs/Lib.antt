pub mod Grep
