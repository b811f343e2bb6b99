pub mod Level
pub mod Limiter
pub mod Line
