pub mod Lines
pub mod ByteMaps
pub mod Replacement
pub mod Append
pub mod Meanings
pub mod Steps
pub mod StableFiles
