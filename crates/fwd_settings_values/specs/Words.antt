-- The words that values choose from, case ignored.
use Rattle.std.specs.Prelude.{ℕ, Bool, true, false, if◌then◌else◌, List, codes, Option, Some, None}
use Rattle.std.specs.Str.{str_eq_ignore_ascii_case}
use Rattle.fwd_base.specs.declared.output_options.Form.{Form}
use Rattle.fwd_base.specs.declared.output_options.Form.TheVariants as form
use Rattle.fwd_settings_values.specs.declared.words.LineFormat.{LineFormat}
use Rattle.fwd_settings_values.specs.declared.words.LineFormat.TheVariants as format
use Rattle.fwd_settings_values.specs.declared.words.Operation.{Operation}
use Rattle.fwd_settings_values.specs.declared.words.Operation.TheVariants as operation

-- the value of a word, or what the text is otherwise
abbrev pub word_or : {X : Type 0} → List ℕ → X → List ℕ → Option X → Option X
word_or word x text other = if str_eq_ignore_ascii_case text word then Some x else other

-- whether each append is fsynced
abbrev pub sync_of : List ℕ → Option Bool
sync_of text = word_or (codes "full") true text (word_or (codes "normal") false text None)

-- whether chunks are file-backed
abbrev pub store_of : List ℕ → Option Bool
store_of text = word_or (codes "filesystem") true text (word_or (codes "memory") false text None)

-- the format of a tcp input's lines, and of a parser's
abbrev pub line_format_of : List ℕ → Option LineFormat
line_format_of text = word_or (codes "json") format.Json text (word_or (codes "none") format.Plain text None)

abbrev pub parser_format_of : List ℕ → Option LineFormat
parser_format_of text = word_or (codes "regex") format.Regex text (line_format_of text)

-- the form of records for a stream, and of those in a file
abbrev pub record_form_of : List ℕ → Option Form
record_form_of text =
    word_or (codes "json_lines") form.JsonLines text (word_or (codes "msgpack") form.MsgPack text None)

abbrev pub file_form_of : List ℕ → Option Form
file_form_of text =
    word_or (codes "out_file") form.OutFile text (word_or (codes "json_lines") form.JsonLines text None)

abbrev pub operation_of : List ℕ → Option Operation
operation_of text =
    word_or (codes "nest") operation.Nest text (word_or (codes "lift") operation.Lift text None)
