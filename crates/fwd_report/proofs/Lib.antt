pub mod Masks
pub mod Lists
pub mod RowLines
