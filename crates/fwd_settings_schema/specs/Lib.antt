pub mod Keys
pub mod Property
