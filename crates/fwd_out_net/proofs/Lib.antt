pub mod ReplyLemmas
pub mod Decoding
pub mod Sizes
