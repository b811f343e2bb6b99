pub mod MappedLists
pub mod FirstMatch
pub mod Edits
pub mod Nesting
