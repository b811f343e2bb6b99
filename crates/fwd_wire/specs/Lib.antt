pub mod Message
pub mod Answer
pub mod Stream
pub mod Decode
pub mod Encode
pub mod Fits
pub mod Representation
