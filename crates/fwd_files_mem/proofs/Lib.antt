pub mod FilePaths
pub mod FilesInvariant
pub mod SinkTrace
