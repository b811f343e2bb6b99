pub mod KeeperAnswers
pub mod KeeperState
pub mod MemKeeper
pub mod Offsets
