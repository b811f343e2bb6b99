pub mod Crashes
pub mod SentRecords
pub mod PresetFiles
