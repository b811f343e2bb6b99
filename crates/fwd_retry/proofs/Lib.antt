pub mod Order
pub mod Members
