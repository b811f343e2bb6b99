pub mod Evictions
pub mod BatchOutcome
