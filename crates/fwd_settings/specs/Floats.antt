-- Whether floats are numbers in JSON: what the last `json.floats` of all SERVICE sections says, wherever they
-- stand. By default, and where it is Off, they are tagged strings, and none is read.
use Rattle.std.specs.Prelude.{ℕ, Bool, true, false, if◌then◌else◌, List, fold, Option, Some, None}
use Rattle.std.specs.Str.{bytes_eq}
use Rattle.fwd_json.specs.declared.floats.Floats.{Floats}
use Rattle.fwd_json.specs.declared.floats.Floats.TheVariants.{Tagged, Numbers}
use Rattle.fwd_settings_values.specs.Text.{truth_of}
use Rattle.fwd_config.specs.declared.section.Entry.{Entry}
use Rattle.fwd_config.specs.declared.section.Section.{Section}
use Rattle.fwd_settings_schema.specs.declared.section_kind.Target.TheVariants as target
use Rattle.fwd_settings_schema.specs.declared.keys.Key.{Key}
use Rattle.fwd_settings_schema.specs.declared.keys.Key.TheVariants as key
use Rattle.fwd_settings_schema.specs.declared.keys.Kind.{Kind}
use Rattle.fwd_settings_schema.specs.Keys.{name_of, key_of, head_of}
use Rattle.fwd_settings.specs.Inputs.{is_service_head}

abbrev pub floats_by : Option Bool → Floats → Floats
floats_by (Some true) former = Numbers
floats_by (Some false) former = Tagged
floats_by None former = former

abbrev pub names_floats : Option (Key × Kind) → Bool
names_floats None = false
names_floats (Some found) = bytes_eq (name_of key.JsonFloats) (name_of found.0)

abbrev pub is_floats_entry : Entry → Bool
is_floats_entry entry = names_floats (key_of target.Service entry.key)

-- the value of an entry that is `json.floats`
abbrev pub floats_entry : Entry → Option Bool
floats_entry entry = if is_floats_entry entry then truth_of entry.value else None

abbrev pub after_entry : Floats → Entry → Floats
after_entry former entry = floats_by (floats_entry entry) former

unfoldable pub after_entries : Floats → List Entry → Floats
after_entries former entries = fold after_entry former entries

abbrev pub after_section : Floats → Section → Floats
after_section former section =
    if is_service_head (head_of section.name) then after_entries former section.entries else former

unfoldable pub floats_in : List Section → Floats
floats_in sections = fold after_section Tagged sections
