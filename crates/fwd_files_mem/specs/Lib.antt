pub mod FilesState
pub mod FilesAnswers
pub mod MemFiles
pub mod SinkState
pub mod MemSink
