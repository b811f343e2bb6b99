pub mod ChunkState
pub mod Evictions
pub mod Backpressure
