pub mod CrashPoint
pub mod RecordedOutcomes
pub mod ChunkFile
pub mod Safety
pub mod Recovery
pub mod FlushEvents
pub mod StepBoundaries
