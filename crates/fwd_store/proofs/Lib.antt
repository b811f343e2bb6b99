mod MadeCalls
mod Results
mod NumberOrder
mod OpenEntries
mod MapEntries
mod Invariant
pub mod CrashPoints
mod RecoveredContent
mod OwnFile
mod OtherFiles
mod Crashes
mod UntouchedFile
