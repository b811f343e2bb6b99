pub mod FileRepresents
pub mod FilesRepresent
pub mod FileFacts
pub mod ReaderStates
pub mod StreamsRepresent
pub mod StreamFacts
