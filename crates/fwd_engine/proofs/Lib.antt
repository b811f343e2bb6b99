pub mod WaitCalls
pub mod CrashSafety
pub mod GracePeriod
pub mod EventFacts
pub mod KeptOffsets
