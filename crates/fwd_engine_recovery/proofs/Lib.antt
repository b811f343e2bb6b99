mod OutputMask
mod FileKinds
mod RenamedFiles
mod StoreReadiness
mod RecoveredParts
mod Metadata
pub mod LoadCalls
mod FollowedFiles
