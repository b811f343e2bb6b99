-- Patterns: how their text is translated, and what they match.
use Rattle.std.specs.Prelude.{◌≡◌, ◌⊎◌, ℕ, ◌+◌, ◌-◌, ◌==◌, ◌&&◌, ◌||◌, nat_le, Bool, false, List, [], ◌∷◌, ◌++◌, length, get_or, drop, slice_range, IsUtf8, Option, Some, None, if◌then◌else◌}
use Rattle.std.specs.Char.{is_ascii_alphabetic}
use Rattle.std.specs.Str.{byte}
use Rattle.regex.specs.Patterns.{Re, Match, default_config, Config}
use Rattle.regex.specs.Bytes.{regex_pattern, regex_names, matcher_pattern, regex_source, regex_config, IsReadFromSource}
use Rattle.regex.specs.Failures.{IsPattern}
use Rattle.regex.specs.Names.{names_of}
use Rattle.regex.specs.Writes.{group_of}
use Rattle.fwd_base.specs.declared.pattern.Pattern.{Pattern}
use Rattle.fwd_base.specs.declared.search.Capture.{Capture}
use Rattle.fwd_base.specs.declared.search.Search.{Search}
use Rattle.fwd_base.specs.declared.rewrite.Position.{Position}
use Rattle.fwd_base.specs.declared.rewrite.Position.TheVariants.{Outside, First, Inside}

-- the position after a byte: a class runs from [ to the next ] that isn't its first character
abbrev pub after_byte : Position → ℕ → Position
after_byte Outside b = if b == byte "[" then First else Outside
after_byte First b = Inside
after_byte Inside b = if b == byte "]" then Outside else Inside

-- the position after a backslash and the character that it escapes
abbrev pub after_escape : Position → Position
after_escape Outside = Outside
after_escape First = Inside
after_escape Inside = Inside

-- whether the bytes begin with < and a letter or _
abbrev pub begins_name : List ℕ → Bool
begins_name [] = false
begins_name (b ∷ []) = false
begins_name (b ∷ c ∷ more) = b == byte "<" && (is_ascii_alphabetic c || c == byte "_")

-- whether these bytes open a named group
abbrev pub opens_named : Position → ℕ → ℕ → List ℕ → Bool
opens_named Outside b c more = b == byte "(" && (c == byte "?" && begins_name more)
opens_named First b c more = false
opens_named Inside b c more = false

-- the translation of a backslash and the byte that it escapes: outside a class < and > lose the backslash,
-- with which the grammar would read the edge of a word
abbrev pub escaped : Position → ℕ → List ℕ
escaped Outside c = if c == byte "<" || c == byte ">" then c ∷ [] else byte "\\" ∷ c ∷ []
escaped First c = byte "\\" ∷ c ∷ []
escaped Inside c = byte "\\" ∷ c ∷ []

-- the translation of a text from a position on, with (?P< for a (?< that opens a named group
abbrev pub translated_from : Position → List ℕ → List ℕ
translated_from place [] = []
translated_from place (b ∷ []) = b ∷ []
translated_from place (b ∷ c ∷ more) =
    if b == byte "\\" then escaped place c ++ translated_from (after_escape place) more
    else (if opens_named place b c more then b ∷ c ∷ byte "P" ∷ translated_from place more
    else b ∷ translated_from (after_byte place b) (c ∷ more))

-- the text between two slashes, if the pattern is enclosed in them
abbrev pub without_slashes : List ℕ → List ℕ
without_slashes text =
    if nat_le 2 (length text) && (get_or text 0 0 == byte "/" && get_or text (length text - 1) 0 == byte "/")
    then slice_range text 1 (length text - 1)
    else text

-- the translated text, which the grammar of the regular expressions reads
abbrev pub translated : List ℕ → List ℕ
translated text = translated_from Outside (without_slashes text)

-- the options of that grammar: those for patterns over bytes
abbrev pub options : Config
options = record default_config { utf8 = false }

-- the expression of a pattern
abbrev pub expression_of : Pattern → Re
expression_of p = regex_pattern p.regex

-- the names of its groups, from group 0 on, which is the whole match and has none
abbrev pub group_names : Pattern → List (Option (List ℕ))
group_names p = regex_names p.regex

-- the pattern is what the grammar reads from the text
pub record IsReadFrom (text : List ℕ) (p : Pattern) : Type 0 where
  pub source : regex_source p.regex ≡ text
  pub under : regex_config p.regex ≡ options
  pub read : IsReadFromSource p.regex

-- the text isn't UTF-8, or the grammar reads no pattern from its translation within the limit on nesting
abbrev pub IsNoPattern : List ℕ → Type 0
IsNoPattern text = (¬ IsUtf8 text) ⊎ (¬ IsPattern options (translated text))

-- a named group of a match: its name, and the bytes that it spans
pub record Captured : Type 0 where
  pub name : List ℕ
  pub bytes : List ℕ

-- a group of a match, if it has a name and took part
abbrev pub named_capture : List ℕ → Option (List ℕ) → Option (ℕ × ℕ) → List Captured
named_capture text None span = []
named_capture text (Some name) None = []
named_capture text (Some name) (Some span) =
    record { name = name; bytes = slice_range text span.0 span.1 } ∷ []

-- the named groups that took part in a match, from group n on, in order
abbrev pub captures_from : List ℕ → Match → ℕ → List (Option (List ℕ)) → List Captured
captures_from text m n [] = []
captures_from text m n (name ∷ names) =
    named_capture text name (group_of m n) ++ captures_from text m (n + 1) names

-- the named groups that took part; group 0 is the whole match and has no name
abbrev pub captures_of : List (Option (List ℕ)) → List ℕ → Match → List Captured
captures_of names text m = captures_from text m 1 (drop 1 names)

-- the value of a borrowed named group
abbrev pub captured : Capture → Captured
captured c = record { name = c.name.now; bytes = c.bytes.now }

-- the expression of a searcher, and the names of its groups
abbrev pub search_expression : Search → Re
search_expression s = matcher_pattern s.matcher

abbrev pub search_names : Search → List (Option (List ℕ))
search_names s = names_of s.names.now

-- the searcher is one for this pattern
pub record SearchesFor (p : Pattern) (s : Search) : Type 0 where
  pub expression : search_expression s ≡ expression_of p
  pub names : search_names s ≡ group_names p

-- a searcher still has the same expression and names
pub record SearchesAs (before after : Search) : Type 0 where
  pub expression : search_expression after ≡ search_expression before
  pub names : search_names after ≡ search_names before
