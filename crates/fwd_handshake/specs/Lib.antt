pub mod Digest
pub mod Messages
pub mod Members
pub mod Right
pub mod Judgement
pub mod Undecodable
