pub mod ByteMatching
pub mod ScanInvariant
pub mod Masks
pub mod Stars
pub mod TestDecides
