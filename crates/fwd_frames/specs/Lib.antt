pub mod Lines
pub mod LineSteps
pub mod Streams
