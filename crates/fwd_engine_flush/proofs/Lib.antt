pub mod AttemptStates
pub mod LinkEvents
pub mod ContentReads
pub mod FreeMasks
pub mod Turns
pub mod Waiting
pub mod WalkOrder
