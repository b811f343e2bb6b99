pub mod Traffic
pub mod Streams
pub mod Links
pub mod Drops
