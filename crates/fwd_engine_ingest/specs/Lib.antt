pub mod EndOfInput
pub mod Continuation
pub mod MessageEvents
