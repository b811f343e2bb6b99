pub mod OffsetTable
pub mod NotesKept
pub mod Unfailing
