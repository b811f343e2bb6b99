pub mod RunEnd
pub mod LastTick
pub mod FactCounts
pub mod Room
pub mod FlushLimits
pub mod StorageLimits
