-- How the value of an entry is read, by the kind of its key.
use Rattle.std.specs.Prelude.{ℕ, Bool, false, ◌&&◌, if◌then◌else◌, List, Option, Some, None, Result, Ok, Err, is_some}
use Rattle.fwd_base.specs.Number.{number_of}
use Rattle.fwd_base.specs.Size.{size_of}
use Rattle.fwd_parser.specs.Floats.{Tagged}
use Rattle.fwd_parser.specs.declared.parser.Parser.{Parser}
use Rattle.fwd_settings_schema.specs.declared.error_kind.SettingKind.{SettingKind}
use Rattle.fwd_settings_schema.specs.declared.error_kind.SettingKind.TheVariants.{UnknownKey, BadNumber, BadSize, BadChoice}
use Rattle.fwd_settings_values.specs.Number.{positive_of, port_of, flush_of, retries_of}
use Rattle.fwd_settings_values.specs.Text.{truth_of, is_false_word, is_tag_text, is_id_text, is_plain_text, is_visible_text, is_uri_text, is_hostname_text}
use Rattle.fwd_settings_values.specs.Types.{types_of}
use Rattle.fwd_settings_values.specs.Statuses.{statuses_of}
use Rattle.fwd_settings_values.specs.Rule.{key_and_rest_of, header_of, condition_of, change_of}
use Rattle.fwd_http.specs.Fields.{is_field_value}
use Rattle.fwd_config.specs.declared.section.Place.{Place}
use Rattle.fwd_config.specs.declared.section.Entry.{Entry}
use Rattle.fwd_settings_schema.specs.declared.keys.Key.{Key}
use Rattle.fwd_settings_schema.specs.declared.keys.Plain.{Plain}
use Rattle.fwd_settings_schema.specs.declared.keys.Plain.TheVariants as plain
use Rattle.fwd_settings_schema.specs.declared.keys.Kind.{Kind}
use Rattle.fwd_settings_schema.specs.declared.keys.Kind.TheVariants as kind
use Rattle.fwd_settings_schema.specs.declared.section_kind.Target.{Target}
use Rattle.fwd_settings_schema.specs.declared.properties.Value.{Value}
use Rattle.fwd_settings_schema.specs.declared.properties.Value.TheVariants as value
use Rattle.fwd_settings_schema.specs.declared.properties.Property.{Property}
use Rattle.fwd_settings_values.specs.Words.{sync_of, store_of, line_format_of, parser_format_of, record_form_of, file_form_of, operation_of}
use Rattle.fwd_settings_schema.specs.Keys.{key_of}
use Rattle.fwd_settings_entries.specs.Reading.{Reading, Checked, ◌>>=◌, known, fault, at, pattern, each}

-- the value, or the error
abbrev pub or_else : {X : Type 0} → SettingKind → (X → Value) → Option X → Result Value SettingKind
or_else refusal make None = Err refusal
or_else refusal make (Some x) = Ok (make x)

abbrev pub when : {X : Type 0} → Bool → X → Option X
when test x = if test then Some x else None

-- a value that is neither a pattern nor a parser
abbrev pub value_of : Plain → List ℕ → Result Value SettingKind
value_of plain.Ignored text = Ok value.Nothing
value_of plain.Number text = or_else BadNumber value.Number (number_of text)
value_of plain.Positive text = or_else BadNumber value.Number (positive_of text)
value_of plain.Port text = or_else BadNumber value.Port (port_of text)
value_of plain.Flush text = or_else BadNumber value.Number (flush_of text)
value_of plain.Retries text = or_else BadNumber value.Retries (retries_of text)
value_of plain.Size text = or_else BadSize value.Number (size_of text)
value_of plain.Truth text = or_else BadChoice value.Truth (truth_of text)
value_of plain.False text = or_else BadChoice value.Truth (when (is_false_word text) false)
value_of plain.Sync text = or_else BadChoice value.Truth (sync_of text)
value_of plain.Store text = or_else BadChoice value.Truth (store_of text)
value_of plain.LineFormat text = or_else BadChoice value.Format (line_format_of text)
value_of plain.ParserFormat text = or_else BadChoice value.Format (parser_format_of text)
value_of plain.RecordForm text = or_else BadChoice value.Form (record_form_of text)
value_of plain.FileForm text = or_else BadChoice value.Form (file_form_of text)
value_of plain.Operation text = or_else BadChoice value.Operation (operation_of text)
value_of plain.Text text = Ok (value.Text text)
value_of plain.Tag text = or_else BadChoice value.Text (when (is_tag_text text) text)
value_of plain.PlainTag text =
    or_else BadChoice value.Text (when (is_plain_text text && is_tag_text text) text)
value_of plain.Paths text = or_else BadChoice value.Text (when (is_plain_text text) text)
value_of plain.Visible text = or_else BadChoice value.Text (when (is_visible_text text) text)
value_of plain.Uri text = or_else BadChoice value.Text (when (is_uri_text text) text)
value_of plain.Hostname text = or_else BadChoice value.Text (when (is_hostname_text text) text)
value_of plain.Types text = or_else BadChoice value.Text (when (is_some (types_of text)) text)
value_of plain.Statuses text = or_else BadChoice value.Text (when (is_some (statuses_of text)) text)
value_of plain.Header text = or_else BadChoice value.Header (header_of text)
value_of plain.Printable text = or_else BadChoice value.Text (when (is_field_value text) text)
value_of plain.Condition text = or_else BadChoice value.Condition (condition_of text)
value_of (plain.Change word) text = or_else BadChoice value.Change (change_of word text)
value_of plain.Wildcard text = Ok (value.Wildcard text)

abbrev pub pattern_property : Entry → Reading Value
pattern_property entry = do
  p ← pattern entry.value entry.place
  known (Ok (value.Pattern p))

-- a rule of grep: its key, and the whole rest as a pattern; whether floats have a text to compare is known
-- where the rules are collected
abbrev pub grep_of : Bool → Place → Option (List ℕ × List ℕ) → Reading Value
grep_of exclude place None = known (Err (fault BadChoice place))
grep_of exclude place (Some parts) = do
  p ← pattern parts.1 place
  known (Ok (value.Grep (record { exclude = exclude; key = parts.0; pattern = p; floats = Tagged })))

-- the id of an output, with its place
abbrev pub id_value : Entry → Checked Value
id_value entry =
    if is_id_text entry.value then Ok (value.Id entry.value entry.place)
    else Err (fault BadChoice entry.place)

-- the value of an entry; `by_name` reads the parser that an entry names
abbrev pub property_value : (Entry → Reading Parser) → Kind → Entry → Reading Value
property_value by_name (kind.Plain plain) entry = known (at entry.place (value_of plain entry.value))
property_value by_name kind.Pattern entry = pattern_property entry
property_value by_name (kind.Grep exclude) entry = grep_of exclude entry.place (key_and_rest_of entry.value)
property_value by_name kind.Id entry = known (id_value entry)
property_value by_name kind.Parser entry = do
  p ← by_name entry
  known (Ok (value.Parser p))

abbrev pub key_property : (Entry → Reading Parser) → Entry → Option (Key × Kind) → Reading Property
key_property by_name entry None = known (Err (fault UnknownKey entry.place))
key_property by_name entry (Some found) = do
  v ← property_value by_name found.1 entry
  known (Ok (record { key = found.0; value = v }))

-- an entry of a section or plugin
abbrev pub entry_property : (Entry → Reading Parser) → Target → Entry → Reading Property
entry_property by_name target entry = key_property by_name entry (key_of target entry.key)

-- entries, in order; the first error is the result of them all
abbrev pub entry_properties : (Entry → Reading Parser) → Target → List Entry → Reading (List Property)
entry_properties by_name target entries = each (entry_property by_name target) entries
