pub mod Id
pub mod Judgement
pub mod Reader
pub mod Undecodable
