pub mod Followed
pub mod Polls
