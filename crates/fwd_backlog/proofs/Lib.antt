pub mod Calls
pub mod Names
pub mod Folders
pub mod Parallel
pub mod GroupRead
pub mod Files
pub mod Serials
pub mod LoadInvariant
pub mod LoadedFiles
pub mod ListableNames
pub mod NumberNames
mod DurableFiles
pub mod PathParts
mod OneBacklog
mod FileLength
mod FreeNumbers
pub mod LoadClauses
