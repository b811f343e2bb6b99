pub mod Floats
pub mod Number
pub mod Time
pub mod Field
pub mod LineEvent
pub mod LineReader
pub mod EventHead
pub mod LentFields
