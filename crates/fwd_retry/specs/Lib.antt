pub mod Wait
pub mod Timer
pub mod Timers
