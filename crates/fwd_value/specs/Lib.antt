pub mod Keys
pub mod Val
pub mod View
pub mod Limits
pub mod Edits
pub mod Weight
pub mod ValueCode
pub mod WeightOrder
