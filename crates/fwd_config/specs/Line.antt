-- The syntax of the lines of a configuration file.
use Rattle.std.specs.Prelude.{ℕ, ◌&&◌, ◌==◌, nat_lt, if◌then◌else◌, List, [], ◌∷◌, ◌++◌, length, take, drop, ◌-◌, codes}
use Rattle.std.specs.List.{before_first, after_first, suffix_len, slice_split}
use Rattle.std.specs.Str.{bytes_eq, str_eq_ignore_ascii_case}
use Rattle.std.specs.Str.Lines.{strip_carriage_return}
use Rattle.fwd_base.specs.Blanks.{is_blank, skip_blanks}

-- the lines between line feeds, each without a carriage return at its end; an empty last part isn't a line
abbrev pub lines_of_parts : List (List ℕ) → List (List ℕ)
lines_of_parts [] = []
lines_of_parts (last ∷ []) = if length last == 0 then [] else strip_carriage_return last ∷ []
lines_of_parts (line ∷ next ∷ more) = strip_carriage_return line ∷ lines_of_parts (next ∷ more)

-- the lines of a text
abbrev pub lines_of : List ℕ → List (List ℕ)
lines_of text = lines_of_parts (slice_split (λ byte. byte == 10) text)

-- a parsed line
pub data Form : Type 0 where
  -- an empty line or a comment
  Blank : Form
  -- `@INCLUDE path`
  Inclusion : (path : List ℕ) → Form
  -- `@SET name=value`
  Setting : (name value : List ℕ) → Form
  -- `[name]`
  Heading : (name : List ℕ) → Form
  -- an entry
  Pair : (key value : List ℕ) → Form
  -- a line that begins with `[` and isn't `[name]`
  NoHeading : Form
  -- a line that begins with `@` and isn't a command
  NoCommand : Form

-- a text without the blanks at its end
abbrev pub drop_end_blanks : List ℕ → List ℕ
drop_end_blanks text = take (length text - suffix_len is_blank text) text

-- the first word of a text ends at a blank
abbrev pub word : List ℕ → List ℕ
word text = before_first is_blank text

-- what follows the first word, without the blanks around it
abbrev pub value : List ℕ → List ℕ
value text = drop_end_blanks (skip_blanks (drop (length (word text)) text))

-- after a `[`: a name that isn't empty and has no `]`, and a `]` at the end of the line
abbrev pub heading_of : List ℕ → Form
heading_of text =
    let name = before_first (λ byte. byte == 93) text in
    if nat_lt 0 (length name) && bytes_eq text (name ++ codes "]") then Heading name else NoHeading

-- After `@SET`: the name of a variable, which isn't empty, up to the first `=`, and its value. The blanks at
-- the end of the line are dropped before variables are replaced.
abbrev pub setting_of : List ℕ → Form
setting_of text =
    let name = before_first (λ byte. byte == 61) text in
    if nat_lt 0 (length name) && nat_lt (length name) (length text)
    then Setting name (after_first (λ byte. byte == 61) text) else NoCommand

-- after an `@`: the name of a command, case ignored, and its value
abbrev pub command_of : List ℕ → List ℕ → Form
command_of name text =
    if str_eq_ignore_ascii_case name (codes "include") then Inclusion text
    else (if str_eq_ignore_ascii_case name (codes "set") then setting_of text else NoCommand)

-- decided by the first byte that isn't a blank; blanks at the end of a header are ignored
abbrev pub form_of_text : List ℕ → Form
form_of_text [] = Blank
form_of_text (first ∷ behind) =
    if first == 35 then Blank
    else (if first == 91 then heading_of (drop_end_blanks behind)
    else (if first == 64 then command_of (word behind) (value behind)
    else Pair (word (first ∷ behind)) (value (first ∷ behind))))

-- the parsed line; blanks at its start are ignored
abbrev pub form_of : List ℕ → Form
form_of line = form_of_text (skip_blanks line)
