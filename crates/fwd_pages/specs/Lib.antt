pub mod Count
pub mod Health
pub mod Metric
pub mod Pages
