pub mod RenamedHandshakes
pub mod SameRun
pub mod HandedBytes
pub mod Replays
