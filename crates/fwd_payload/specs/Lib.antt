pub mod Reader
pub mod Content
