pub mod LoadResult
pub mod Serial
pub mod Listing
pub mod LoadProgram
pub mod Groups
pub mod Recovered
