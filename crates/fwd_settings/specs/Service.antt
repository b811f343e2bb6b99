-- The settings of the engine itself, from the entries of all SERVICE sections.
use Rattle.std.specs.Prelude.{ℕ, Bool, true, false, List, Option, Some, unwrap_or}
use Rattle.fwd_settings.specs.declared.settings_types.Service.{Service}
use Rattle.fwd_settings_schema.specs.declared.keys.Key.TheVariants as key
use Rattle.fwd_settings_schema.specs.declared.properties.Property.{Property}
use Rattle.fwd_settings_schema.specs.Property.{number_at, text_at, truth_at}

-- What counts without a key: milliseconds between closings, seconds after a stop, chunks and bytes in
-- flight, and seconds of the shortest and the longest wait before a retry.
abbrev pub default_flush_ms : ℕ
default_flush_ms = 1000

abbrev pub default_grace_s : ℕ
default_grace_s = 5

abbrev pub default_max_up : ℕ
default_max_up = 128

abbrev pub default_backlog_limit : ℕ
default_backlog_limit = 5000000

abbrev pub default_base : ℕ
default_base = 5

abbrev pub default_cap : ℕ
default_cap = 2000

abbrev pub service_of : List Property → Service
service_of properties = record {
  flush_ms = unwrap_or (number_at key.Flush properties) default_flush_ms;
  grace_s = unwrap_or (number_at key.Grace properties) default_grace_s;
  path = text_at key.StoragePath properties;
  full = unwrap_or (truth_at key.StorageSync properties) false;
  max_up = unwrap_or (number_at key.MaxChunksUp properties) default_max_up;
  backlog_limit = unwrap_or (number_at key.BacklogMemLimit properties) default_backlog_limit;
  base = unwrap_or (number_at key.SchedulerBase properties) default_base;
  cap = unwrap_or (number_at key.SchedulerCap properties) default_cap;
}
