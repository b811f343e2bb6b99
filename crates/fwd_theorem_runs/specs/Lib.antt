pub mod SplitRun
pub mod StopsAfterTicks
