pub mod Lines
pub mod Heads
pub mod Readings
pub mod Judgement
pub mod HeadGrowth
pub mod ParserResults
pub mod Requests
