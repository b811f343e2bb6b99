pub mod Split
pub mod FieldTypes
pub mod StatusRanges
