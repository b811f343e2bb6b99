pub mod FirstFeed
pub mod StreamSplit
pub mod KeptRest
pub mod UniqueSplit
