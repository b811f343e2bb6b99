pub mod OpenChunk
pub mod Source
pub mod SameSource
pub mod StoreState
pub mod Codes
pub mod Store
pub mod Crash
