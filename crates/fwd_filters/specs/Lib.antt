pub mod Step
pub mod Prepared
pub mod FilterRelation
pub mod FilterFunction
