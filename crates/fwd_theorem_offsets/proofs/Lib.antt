pub mod PassedOffsets
pub mod LineOrigins
pub mod SplitFiles
pub mod TrackedFiles
pub mod RunStart
pub mod FirstRead
