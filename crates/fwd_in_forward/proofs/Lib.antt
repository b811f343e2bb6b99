pub mod MoreBytes
pub mod StreamGrowth
pub mod Parts
pub mod NextMessage
pub mod ScanResult
pub mod Feed
pub mod EncodedParts
pub mod PartsRead
