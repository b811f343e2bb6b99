pub mod Streams
pub mod Batches
pub mod Dispatch
pub mod Polls
pub mod Resolutions
pub mod Payloads
pub mod Turns
pub mod PutOffsets
