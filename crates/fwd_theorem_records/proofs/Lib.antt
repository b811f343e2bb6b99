pub mod ReadPieces
pub mod ReadBytes
pub mod WaitedPieces
pub mod CompletedBatches
pub mod StoredEvents
pub mod ChunkRecords
pub mod SentRecords
