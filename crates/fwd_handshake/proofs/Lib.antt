pub mod Parts
pub mod Decoding
pub mod RightMessages
pub mod Judged
pub mod Written
pub mod Through
