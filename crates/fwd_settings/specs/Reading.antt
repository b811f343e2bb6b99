-- What a reading of settings comes to, as the reading of entries defines it.
pub use Rattle.fwd_settings_entries.specs.Reading.{Checked, IsResult}
