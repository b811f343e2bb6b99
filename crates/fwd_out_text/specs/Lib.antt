pub mod FirstEvent
pub mod Payload
pub mod Headers
