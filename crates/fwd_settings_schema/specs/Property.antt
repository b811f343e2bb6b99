-- The entries of a section: keys with the values read for them, in order.
use Rattle.std.specs.Prelude.{ℕ, Bool, if◌then◌else◌, List, count_by, Option, Some, None, is_some}
use Rattle.std.specs.List.{last_or, filter_map}
use Rattle.std.specs.Str.{bytes_eq}
use Rattle.fwd_base.specs.declared.output_options.Form.{Form}
use Rattle.fwd_base.specs.declared.output_options.Retries.{Retries}
use Rattle.fwd_base.specs.declared.pattern.Pattern.{Pattern}
use Rattle.fwd_parser.specs.declared.parser.Parser.{Parser}
use Rattle.fwd_http.specs.declared.fields.HeaderField.{HeaderField}
use Rattle.fwd_config.specs.declared.section.Place.{Place}
use Rattle.fwd_grep.specs.declared.rules.GrepRule.{GrepRule}
use Rattle.fwd_parser.specs.Floats.{Floats}
use Rattle.fwd_reshape.specs.declared.rules.Condition.{Condition}
use Rattle.fwd_reshape.specs.declared.rules.Change.{Change}
use Rattle.fwd_settings_schema.specs.declared.keys.Key.{Key}
use Rattle.fwd_settings_values.specs.declared.words.LineFormat.{LineFormat}
use Rattle.fwd_settings_values.specs.declared.words.Operation.{Operation}
use Rattle.fwd_settings_schema.specs.declared.properties.Value.{Value}
use Rattle.fwd_settings_schema.specs.declared.properties.Value.TheVariants as value
use Rattle.fwd_settings_schema.specs.declared.properties.Property.{Property}
use Rattle.fwd_settings_schema.specs.Keys.{name_of}

-- the value of an entry with this key, if it is the same key
abbrev pub value_for : Key → Property → Option Value
value_for key item = if bytes_eq (name_of key) (name_of item.key) then Some item.value else None

-- if a key is given twice, the last entry counts
abbrev pub last_value : Key → List Property → Option Value
last_value key properties = last_or None (filter_map (value_for key) properties)

abbrev pub as_number : Option Value → Option ℕ
as_number (Some (value.Number n)) = Some n
as_number _ = None

abbrev pub as_port : Option Value → Option ℕ
as_port (Some (value.Port n)) = Some n
as_port _ = None

abbrev pub as_truth : Option Value → Option Bool
as_truth (Some (value.Truth b)) = Some b
as_truth _ = None

abbrev pub as_format : Option Value → Option LineFormat
as_format (Some (value.Format f)) = Some f
as_format _ = None

abbrev pub as_form : Option Value → Option Form
as_form (Some (value.Form f)) = Some f
as_form _ = None

abbrev pub as_operation : Option Value → Option Operation
as_operation (Some (value.Operation o)) = Some o
as_operation _ = None

abbrev pub as_text : Option Value → Option (List ℕ)
as_text (Some (value.Text t)) = Some t
as_text _ = None

abbrev pub as_retries : Option Value → Option Retries
as_retries (Some (value.Retries r)) = Some r
as_retries _ = None

abbrev pub as_id : Option Value → Option (List ℕ)
as_id (Some (value.Id name place)) = Some name
as_id _ = None

abbrev pub as_id_place : Option Value → Option Place
as_id_place (Some (value.Id name place)) = Some place
as_id_place _ = None

-- the number, the text and so on of the last entry with a key
abbrev pub number_at : Key → List Property → Option ℕ
number_at key properties = as_number (last_value key properties)

abbrev pub port_at : Key → List Property → Option ℕ
port_at key properties = as_port (last_value key properties)

abbrev pub truth_at : Key → List Property → Option Bool
truth_at key properties = as_truth (last_value key properties)

abbrev pub format_at : Key → List Property → Option LineFormat
format_at key properties = as_format (last_value key properties)

abbrev pub form_at : Key → List Property → Option Form
form_at key properties = as_form (last_value key properties)

abbrev pub operation_at : Key → List Property → Option Operation
operation_at key properties = as_operation (last_value key properties)

abbrev pub text_at : Key → List Property → Option (List ℕ)
text_at key properties = as_text (last_value key properties)

abbrev pub id_at : Key → List Property → Option (List ℕ)
id_at key properties = as_id (last_value key properties)

abbrev pub id_place_at : Key → List Property → Option Place
id_place_at key properties = as_id_place (last_value key properties)

abbrev pub retries_at : Key → List Property → Option Retries
retries_at key properties = as_retries (last_value key properties)

-- values that only one key has
abbrev pub pattern_in : Property → Option Pattern
pattern_in item = pattern_of item.value
  where
    pattern_of : Value → Option Pattern
    pattern_of (value.Pattern p) = Some p
    pattern_of _ = None

abbrev pub parser_in : Property → Option Parser
parser_in item = parser_of item.value
  where
    parser_of : Value → Option Parser
    parser_of (value.Parser p) = Some p
    parser_of _ = None

abbrev pub grep_in : Floats → Property → Option GrepRule
grep_in floats item = grep_of item.value
  where
    grep_of : Value → Option GrepRule
    grep_of (value.Grep g) = Some (record g { floats = floats })
    grep_of _ = None

abbrev pub condition_in : Property → Option Condition
condition_in item = condition_of item.value
  where
    condition_of : Value → Option Condition
    condition_of (value.Condition c) = Some c
    condition_of _ = None

abbrev pub change_in : Property → Option Change
change_in item = change_of item.value
  where
    change_of : Value → Option Change
    change_of (value.Change c) = Some c
    change_of _ = None

abbrev pub wildcard_in : Property → Option (List ℕ)
wildcard_in item = wildcard_of item.value
  where
    wildcard_of : Value → Option (List ℕ)
    wildcard_of (value.Wildcard w) = Some w
    wildcard_of _ = None

abbrev pub header_in : Property → Option HeaderField
header_in item = header_of item.value
  where
    header_of : Value → Option HeaderField
    header_of (value.Header h) = Some h
    header_of _ = None

unfoldable pub is_header : Property → Bool
is_header item = is_some (header_in item)

abbrev pub header_count : List Property → ℕ
header_count properties = count_by is_header properties

-- the last of them
abbrev pub last_in : {X : Type 0} → (Property → Option X) → List Property → Option X
last_in x_in properties = last_or None (filter_map x_in properties)
