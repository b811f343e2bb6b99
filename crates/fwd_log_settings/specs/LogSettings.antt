-- What a configuration says about the log, the pages and unfinished messages.
use Rattle.std.specs.Prelude.{ℕ, List, Bool, false, ◌||◌, codes, Option, Some, None, unwrap_or, if◌then◌else◌}
use Rattle.std.specs.Str.{str_eq_ignore_ascii_case}
use Rattle.fwd_config.specs.declared.section.Section.{Section}
use Rattle.fwd_log.specs.declared.level.Level.{Level}
use Rattle.fwd_log.specs.declared.level.Level.TheVariants as level
use Rattle.fwd_base.specs.Size.{size_of}
use Rattle.fwd_settings_values.specs.Text.{truth_of}
use Rattle.fwd_settings_values.specs.Number.{port_of}
use Rattle.fwd_log_settings.specs.declared.keys.LogSettings.{LogSettings}
use Rattle.fwd_log_settings.specs.declared.keys.PageServer.{PageServer}
use Rattle.fwd_log_settings.specs.Entry.{last_value}

-- the level of a word
abbrev pub level_named : List ℕ → Option Level
level_named word =
    if str_eq_ignore_ascii_case word (codes "off") then None
    else if str_eq_ignore_ascii_case word (codes "error") then Some level.Error
    else if str_eq_ignore_ascii_case word (codes "warn") || str_eq_ignore_ascii_case word (codes "warning")
    then Some level.Warn
    else if str_eq_ignore_ascii_case word (codes "debug") || str_eq_ignore_ascii_case word (codes "trace")
    then Some level.Debug
    else Some level.Info

-- the level of a key's value; info without the key
abbrev pub level_at : Option (List ℕ) → Option Level
level_at None = Some level.Info
level_at (Some word) = level_named word

-- whether a value is a word for true
abbrev pub is_on_at : Option (List ℕ) → Bool
is_on_at None = false
is_on_at (Some word) = unwrap_or (truth_of word) false

-- the port of a value; 2020 without one
abbrev pub port_of_value : Option (List ℕ) → ℕ
port_of_value None = 2020
port_of_value (Some text) = unwrap_or (port_of text) 2020

-- the size of a value; 64,000,000 bytes without one
abbrev pub limit_of_value : Option (List ℕ) → ℕ
limit_of_value None = 64_000_000
limit_of_value (Some text) = unwrap_or (size_of text) 64_000_000

abbrev pub level_of : List Section → Option Level
level_of sections = level_at (last_value (codes "log_level") sections)

abbrev pub is_on : List ℕ → List Section → Bool
is_on key sections = is_on_at (last_value key sections)

abbrev pub port_at : List Section → ℕ
port_at sections = port_of_value (last_value (codes "http_port") sections)

abbrev pub host_of : List Section → List ℕ
host_of sections = unwrap_or (last_value (codes "http_listen") sections) (codes "0.0.0.0")

-- where the pages are served, if they are
abbrev pub server_of : List Section → Option PageServer
server_of sections =
    if is_on (codes "http_server") sections
    then Some (record { host = host_of sections; port = port_at sections }) else None

-- the most bytes that the unfinished messages of all connections may have together
abbrev pub unfinished_limit_of : List Section → ℕ
unfinished_limit_of sections = limit_of_value (last_value (codes "forward.mem_limit") sections)

abbrev pub log_settings_of : List Section → LogSettings
log_settings_of sections = record {
  level = level_of sections;
  file = last_value (codes "log_file") sections;
  server = server_of sections;
  checks_health = is_on (codes "health_check") sections;
  unfinished_limit = unfinished_limit_of sections;
}
