pub mod Request
pub mod Reply
pub mod Head
pub mod FirstHead
