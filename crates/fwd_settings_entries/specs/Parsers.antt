-- Parsers, and the PARSER sections that describe them.
use Rattle.std.specs.Prelude.{ℕ, Bool, true, false, ◌&&◌, List, [], codes, Option, Some, None, Ok, Err, unwrap_or, option_map}
use Rattle.std.specs.List.{find, filter, last_or}
use Rattle.std.specs.Str.{bytes_eq, str_eq_ignore_ascii_case}
use Rattle.fwd_base.specs.declared.pattern.Pattern.{Pattern}
use Rattle.fwd_parser.specs.Floats.{Tagged}
use Rattle.fwd_parser.specs.declared.parser.Parser.{Parser}
use Rattle.fwd_parser.specs.declared.parser.Shape.{Shape}
use Rattle.fwd_parser.specs.declared.parser.Shape.TheVariants as shape
use Rattle.fwd_parser.specs.declared.parser.FieldType.{FieldType}
use Rattle.fwd_parser.specs.declared.parser.TimeRule.{TimeRule}
use Rattle.fwd_settings_values.specs.Types.{types_of}
use Rattle.fwd_settings_schema.specs.declared.error_kind.SettingKind.TheVariants.{BadChoice, Missing}
use Rattle.fwd_config.specs.declared.section.Place.{Place}
use Rattle.fwd_config.specs.declared.section.Entry.{Entry}
use Rattle.fwd_config.specs.declared.section.Section.{Section}
use Rattle.fwd_settings_schema.specs.declared.section_kind.SectionKind.{SectionKind}
use Rattle.fwd_settings_schema.specs.declared.section_kind.SectionKind.TheVariants as head
use Rattle.fwd_settings_schema.specs.declared.section_kind.Target.TheVariants as target
use Rattle.fwd_settings_schema.specs.declared.keys.Key.TheVariants as key
use Rattle.fwd_settings_values.specs.declared.words.LineFormat.{LineFormat}
use Rattle.fwd_settings_values.specs.declared.words.LineFormat.TheVariants as format
use Rattle.fwd_settings_schema.specs.declared.properties.Property.{Property}
use Rattle.fwd_settings_schema.specs.Keys.{head_of}
use Rattle.fwd_settings_schema.specs.Property.{format_at, text_at, truth_at, last_in, pattern_in}
use Rattle.fwd_settings_entries.specs.Reading.{Reading, Checked, ◌>>=◌, known, fault}
use Rattle.fwd_settings_entries.specs.Values.{entry_properties}

-- a parser without a time; whether parsers read floats is known where an input has one
abbrev pub timeless : Shape → Parser
timeless shape = record { shape = shape; time = None; floats = Tagged }

-- the time is read if a format is given
abbrev pub time_of : List Property → Option TimeRule
time_of properties =
    option_map
    (λ format. record {
      key = unwrap_or (text_at key.TimeKey properties) (codes "time");
      format = format;
      keep = unwrap_or (truth_at key.TimeKeep properties) false;
    })
    (text_at key.TimeFormat properties)

abbrev pub parser_by : List Property → Shape → Parser
parser_by properties shape = record { shape = shape; time = time_of properties; floats = Tagged }

-- the types of fields, none without a text
abbrev pub types_by : Option (List ℕ) → List FieldType
types_by None = []
types_by (Some text) = unwrap_or (types_of text) []

-- groups require a pattern
abbrev pub groups_by : Place → List Property → Option Pattern → Checked Shape
groups_by place properties None = Err (fault Missing place)
groups_by place properties (Some p) =
    Ok (shape.Groups p (types_by (text_at key.Types properties))
    (unwrap_or (truth_at key.SkipEmptyValues properties) true))

-- a Format is required
abbrev pub shape_by : Place → List Property → Option LineFormat → Checked Shape
shape_by place properties None = Err (fault Missing place)
shape_by place properties (Some format.Json) = Ok shape.Json
shape_by place properties (Some format.Regex) = groups_by place properties (last_in pattern_in properties)
shape_by place properties (Some format.Plain) = Ok shape.Plain

abbrev pub with_time : List Property → Checked Shape → Checked Parser
with_time properties (Ok shape) = Ok (parser_by properties shape)
with_time properties (Err refusal) = Err refusal

-- The parser that the entries of a section describe, whose header is at this place. The pattern is checked
-- whatever the Format is; Types apply to the groups of a pattern only.
abbrev pub parser_from : Place → List Property → Checked Parser
parser_from place properties =
    with_time properties (shape_by place properties (format_at key.Format properties))

-- an entry of a PARSER section can't name a parser
abbrev pub no_parser : Entry → Reading Parser
no_parser entry = known (Err (fault BadChoice entry.place))

abbrev pub parser_of : Section → Reading Parser
parser_of section = do
  properties ← entry_properties no_parser target.Parser section.entries
  known (parser_from section.place properties)

-- the Name of a section; if there are several, the last counts
abbrev pub is_name : Entry → Bool
is_name entry = str_eq_ignore_ascii_case (codes "name") entry.key

abbrev pub name_entry : List Entry → Option Entry
name_entry entries = last_or None (filter is_name entries)

abbrev pub is_parser_head : Option SectionKind → Bool
is_parser_head (Some head.Parser) = true
is_parser_head _ = false

abbrev pub has_name : List ℕ → Option Entry → Bool
has_name name None = false
has_name name (Some entry) = bytes_eq entry.value name

abbrev pub is_parser_named : List ℕ → Section → Bool
is_parser_named name section =
    is_parser_head (head_of section.name) && has_name name (name_entry section.entries)

abbrev pub parser_in_section : Entry → Option Section → Reading Parser
parser_in_section entry None = known (Err (fault BadChoice entry.place))
parser_in_section entry (Some section) = parser_of section

-- The parser that an entry names: that of the first PARSER section with this name, which is checked in place
-- of the entry. Names of parsers are case-sensitive.
abbrev pub parser_named : List Section → Entry → Reading Parser
parser_named all entry = parser_in_section entry (find (is_parser_named entry.value) all)
