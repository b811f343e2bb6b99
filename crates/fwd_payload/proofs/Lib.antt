pub mod Ids
pub mod EncodedSizes
