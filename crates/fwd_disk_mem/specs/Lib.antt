pub mod FileTable
pub mod Entry
pub mod DiskState
pub mod Fields
pub mod Listing
pub mod Images
