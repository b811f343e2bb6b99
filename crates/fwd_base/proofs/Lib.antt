pub mod Decimal
pub mod Translation
pub mod MappedLists
pub mod SendSync
mod Indices
mod Utf8
mod Bits
