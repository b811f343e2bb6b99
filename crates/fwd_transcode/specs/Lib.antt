pub mod Transcoded
pub mod Events
