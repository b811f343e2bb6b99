pub mod Readings
pub mod EntryLemmas
