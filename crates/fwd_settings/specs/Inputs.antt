-- Settings of inputs, from the entries of their sections.
use Rattle.std.specs.Prelude.{ℕ, Bool, true, false, ◌&&◌, not, if◌then◌else◌, List, ◌++◌, codes, count_by, decimal, Option, Some, None, Ok, Err, unwrap_or}
use Rattle.std.specs.List.{list_any}
use Rattle.std.specs.Str.{bytes_eq}
use Rattle.fwd_json.specs.declared.floats.Floats.{Floats}
use Rattle.fwd_parser.specs.declared.parser.Parser.{Parser}
use Rattle.fwd_parser.specs.declared.parser.Shape.{Shape}
use Rattle.fwd_parser.specs.declared.parser.Shape.TheVariants as shape
use Rattle.fwd_settings_values.specs.Text.{parts_of}
use Rattle.fwd_settings_schema.specs.declared.error_kind.SettingKind.TheVariants.{Missing}
use Rattle.fwd_config.specs.declared.section.Place.{Place}
use Rattle.fwd_config.specs.declared.section.Entry.{Entry}
use Rattle.fwd_config.specs.declared.section.Section.{Section}
use Rattle.fwd_settings.specs.declared.settings_types.InputKind.{InputKind}
use Rattle.fwd_settings.specs.declared.settings_types.InputKind.TheVariants as input
use Rattle.fwd_settings.specs.declared.settings_types.InputSet.{InputSet}
use Rattle.fwd_settings_schema.specs.declared.section_kind.SectionKind.{SectionKind}
use Rattle.fwd_settings_schema.specs.declared.section_kind.SectionKind.TheVariants as head
use Rattle.fwd_settings_schema.specs.declared.section_kind.Target.TheVariants as target
use Rattle.fwd_settings_schema.specs.declared.plugins.InputPlugin.{InputPlugin}
use Rattle.fwd_settings_schema.specs.declared.plugins.InputPlugin.TheVariants as plugin
use Rattle.fwd_settings_schema.specs.declared.keys.Key.{Key}
use Rattle.fwd_settings_schema.specs.declared.keys.Key.TheVariants as key
use Rattle.fwd_settings_schema.specs.declared.keys.Kind.{Kind}
use Rattle.fwd_settings_values.specs.declared.words.LineFormat.{LineFormat}
use Rattle.fwd_settings_values.specs.declared.words.LineFormat.TheVariants as format
use Rattle.fwd_settings_schema.specs.declared.properties.Property.{Property}
use Rattle.fwd_settings_schema.specs.Keys.{name_of, name_of_input, key_of, head_of, tcp_port, forward_port}
use Rattle.fwd_settings_schema.specs.Property.{number_at, port_at, truth_at, format_at, text_at, last_in, parser_in}
use Rattle.fwd_settings_entries.specs.Reading.{Checked, fault}
use Rattle.fwd_settings_entries.specs.Parsers.{timeless}
use Rattle.fwd_settings.specs.SharedKeys.{shared_key_of}

-- the name of an instance: its plugin, a dot and its number
abbrev pub instance : List ℕ → ℕ → List ℕ
instance plugin number = plugin ++ codes "." ++ decimal number

-- the plugin of an input
abbrev pub input_plugin : InputKind → InputPlugin
input_plugin (input.Tail paths from_head) = plugin.Tail
input_plugin (input.Tcp host port) = plugin.Tcp
input_plugin (input.Forward host port) = plugin.Forward
input_plugin input.Stdin = plugin.Stdin

-- whether an input is of the plugin
abbrev pub is_input_of : InputPlugin → InputSet → Bool
is_input_of plugin set = bytes_eq (name_of_input (input_plugin set.kind)) (name_of_input plugin)

-- its number among the inputs of the plugin, from 0
abbrev pub input_name : List InputSet → InputPlugin → List ℕ
input_name before plugin = instance (name_of_input plugin) (count_by (is_input_of plugin) before)

abbrev pub tail_by : Place → List Property → Option (List ℕ) → Checked InputKind
tail_by place properties None = Err (fault Missing place)
tail_by place properties (Some paths) =
    Ok (input.Tail (parts_of (codes ",") paths) (unwrap_or (truth_at key.ReadFromHead properties) false))

-- A tail input requires its Path, which is split at each comma. Blanks and empty names are kept, and a path
-- given twice is two followed files.
abbrev pub input_kind : InputPlugin → Place → List Property → Checked InputKind
input_kind plugin.Tail place properties = tail_by place properties (text_at key.Path properties)
input_kind plugin.Tcp place properties =
    Ok (input.Tcp (unwrap_or (text_at key.Listen properties) (codes "0.0.0.0"))
    (unwrap_or (port_at key.Port properties) tcp_port))
input_kind plugin.Forward place properties =
    Ok (input.Forward (unwrap_or (text_at key.Listen properties) (codes "0.0.0.0"))
    (unwrap_or (port_at key.Port properties) forward_port))
input_kind plugin.Stdin place properties = Ok input.Stdin

-- without a Tag the instance's name is the tag, except for forward, whose messages bring theirs
abbrev pub tag_of : InputPlugin → List ℕ → Option (List ℕ) → Option (List ℕ)
tag_of plugin.Tail name tag = Some (unwrap_or tag name)
tag_of plugin.Tcp name tag = Some (unwrap_or tag name)
tag_of plugin.Forward name tag = tag
tag_of plugin.Stdin name tag = Some (unwrap_or tag name)

abbrev pub lines_shape : Option LineFormat → Shape
lines_shape (Some format.Plain) = shape.Plain
lines_shape (Some format.Json) = shape.Json
lines_shape (Some format.Regex) = shape.Json
lines_shape None = shape.Json

-- The Parser of tail and stdin, by default none and JSON; the Format of tcp. A forward input has the parser
-- of whole lines, which it never uses.
abbrev pub input_parser : InputPlugin → List Property → Parser
input_parser plugin.Tail properties = unwrap_or (last_in parser_in properties) (timeless shape.Plain)
input_parser plugin.Stdin properties = unwrap_or (last_in parser_in properties) (timeless shape.Json)
input_parser plugin.Tcp properties = timeless (lines_shape (format_at key.Format properties))
input_parser plugin.Forward properties = timeless shape.Plain

-- a parser that reads floats, or that reads none
abbrev pub with_floats : Floats → Parser → Parser
with_floats floats parser = record parser { floats = floats }

-- some SERVICE section has a storage.path
abbrev pub names_path : Option (Key × Kind) → Bool
names_path None = false
names_path (Some found) = bytes_eq (name_of key.StoragePath) (name_of found.0)

abbrev pub is_path_entry : Entry → Bool
is_path_entry entry = names_path (key_of target.Service entry.key)

abbrev pub is_service_head : Option SectionKind → Bool
is_service_head (Some head.Service) = true
is_service_head _ = false

abbrev pub has_path : Section → Bool
has_path section = is_service_head (head_of section.name) && list_any is_path_entry section.entries

abbrev pub input_set : Floats → InputPlugin → List ℕ → List Property → InputKind → InputSet
input_set floats plugin name properties kind = record {
  name = name;
  kind = kind;
  tag = tag_of plugin name (text_at key.Tag properties);
  stored = unwrap_or (truth_at key.StorageType properties) false;
  mem_limit = number_at key.MemBufLimit properties;
  db = text_at key.Database properties;
  parser = with_floats floats (input_parser plugin properties);
  shared = shared_key_of properties;
}

-- an input with file-backed chunks requires a storage.path
abbrev pub stored_in : Bool → Place → InputSet → Checked InputSet
stored_in path place set = if set.stored && not path then Err (fault Missing place) else Ok set

abbrev pub input_by : Bool → Floats → InputPlugin → Place → List ℕ → List Property → Checked InputKind
    → Checked InputSet
input_by path floats plugin place name properties (Ok kind) =
    stored_in path place (input_set floats plugin name properties kind)
input_by path floats plugin place name properties (Err refusal) = Err refusal

-- the settings of an input, given those of the inputs before it
abbrev pub input_from : Bool → Floats → InputPlugin → Place → List InputSet → List Property
    → Checked InputSet
input_from path floats plugin place before properties =
    input_by path floats plugin place (input_name before plugin) properties
    (input_kind plugin place properties)
