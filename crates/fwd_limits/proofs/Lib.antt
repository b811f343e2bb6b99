pub mod Sums
pub mod ChunkStates
pub mod WaitingBytes
pub mod LowestChunks
pub mod Masks
pub mod Evictions
