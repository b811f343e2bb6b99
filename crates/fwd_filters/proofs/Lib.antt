pub mod Matches
pub mod ThreadSafety
pub mod FilterFunction
mod Prepared
mod Join
