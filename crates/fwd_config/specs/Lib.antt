pub mod Line
pub mod Variables
pub mod Text
pub mod Meaning
pub mod Representation
pub mod Sections
pub mod LoadResult
