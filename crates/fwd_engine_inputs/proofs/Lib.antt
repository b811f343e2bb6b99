pub mod FileLists
pub mod FileSteps
pub mod UnfinishedMessages
pub mod UnreadFiles
pub mod StreamMessages
pub mod StreamSteps
