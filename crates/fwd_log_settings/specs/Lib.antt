pub mod Entry
pub mod LogSettings
