-- What a line means after the text above it, and which errors refuse it.
use Rattle.std.specs.Prelude.{ℕ, ◌-◌, Bool, true, false, ◌&&◌, ◌==◌, not, if◌then◌else◌, List, [], ◌∷◌, ◌++◌, length, take, slice_index, Option, Some, None}
use Rattle.std.specs.List.{suffix_len}
use Rattle.fwd_config.specs.Line.{Form, Inclusion, Setting, Heading, Pair, NoHeading, NoCommand}
use Rattle.fwd_config.specs.Variables.{Values, replace_variables, has_open_brace}
use Rattle.fwd_config.specs.Text.{Text, Variable, Header, EntryItem, values_after, sections_of, entry}
use Rattle.fwd_config.specs.declared.section.Place.{Place}
use Rattle.fwd_config.specs.declared.fault.ConfigKind.{ConfigKind}
use Rattle.fwd_config.specs.declared.fault.ConfigKind.TheVariants.{EntryOutsideSection, NoValue, BadSection, IncludeTooDeep, BadSet, OpenBrace}

-- a path up to and including its last slash
abbrev pub folder : List ℕ → List ℕ
folder path = take (length path - suffix_len (λ byte. not (byte == 47)) path) path

-- An include path is relative to the folder of the file that has it, unless it begins with a slash. Variables
-- in the path are replaced first.
abbrev pub relative_path : List ℕ → List ℕ → List ℕ
relative_path file path = if slice_index path 0 == 47 then path else folder file ++ path

abbrev pub is_pair : Form → Bool
is_pair (Pair key value) = true
is_pair _ = false

abbrev pub is_inclusion : Form → Bool
is_inclusion (Inclusion path) = true
is_inclusion _ = false

abbrev pub is_no_heading : Form → Bool
is_no_heading NoHeading = true
is_no_heading _ = false

abbrev pub is_no_command : Form → Bool
is_no_command NoCommand = true
is_no_command _ = false

-- the value of an entry or an `@INCLUDE` is empty
abbrev pub lacks_value : Form → Bool
lacks_value (Inclusion path) = length path == 0
lacks_value (Pair key value) = length value == 0
lacks_value _ = false

-- the part of a line in which variables are replaced
abbrev pub value_of_form : Form → List ℕ
value_of_form (Inclusion path) = path
value_of_form (Setting name value) = value
value_of_form (Pair key value) = value
value_of_form _ = []

-- The errors of a line, each with its test, in the order in which they count. `includes_left` more includes
-- may be nested.
abbrev pub causes : ℕ → Text → Form → List (Bool × ConfigKind)
causes includes_left above form =
    (is_pair form && length (sections_of above) == 0, EntryOutsideSection)
    ∷ (lacks_value form, NoValue)
    ∷ (is_no_heading form, BadSection)
    ∷ (is_inclusion form && includes_left == 0, IncludeTooDeep)
    ∷ (is_no_command form, BadSet)
    ∷ (has_open_brace (value_of_form form), OpenBrace)
    ∷ []

abbrev pub first_cause : List (Bool × ConfigKind) → Option ConfigKind
first_cause [] = None
first_cause (cause ∷ others) = if cause.0 then Some cause.1 else first_cause others

pub data Meaning : Type 0 where
  -- the line adds this to the text
  Adds : Text → Meaning
  -- the lines of this file come here
  Includes : (path : List ℕ) → Meaning
  -- the line is refused
  Refused : ConfigKind → Meaning

-- a line that isn't refused, with the values of the variables there
abbrev pub accepted_meaning : Values → Place → Form → Meaning
accepted_meaning values place (Inclusion path) =
    Includes (relative_path place.file (replace_variables values path))
accepted_meaning values place (Setting name value) =
    Adds (Variable name (replace_variables values value) ∷ [])
accepted_meaning values place (Heading name) = Adds (Header name place ∷ [])
accepted_meaning values place (Pair key value) =
    Adds (EntryItem (entry key (replace_variables values value) place) ∷ [])
accepted_meaning values place _ = Adds []

abbrev pub unless_refused : Option ConfigKind → Meaning → Meaning
unless_refused None meaning = meaning
unless_refused (Some kind) meaning = Refused kind

-- what a line means at its place, after the text above, in this environment
abbrev pub meaning : Values → ℕ → Place → Text → Form → Meaning
meaning env includes_left place above form =
    unless_refused (first_cause (causes includes_left above form))
    (accepted_meaning (values_after env above) place form)
