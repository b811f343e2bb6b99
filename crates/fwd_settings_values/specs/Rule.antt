-- The rules of `grep` and `modify`, and header fields, by the text of a configuration.
use Rattle.std.specs.Prelude.{ℕ, Bool, false, not, ◌==◌, ◌&&◌, nat_lt, if◌then◌else◌, List, [], ◌∷◌, length, codes, Option, Some, None, option_map}
use Rattle.std.specs.Str.{str_eq_ignore_ascii_case, byte}
use Rattle.fwd_reshape.specs.declared.rules.Condition.{Condition}
use Rattle.fwd_reshape.specs.declared.rules.Condition.TheVariants as condition
use Rattle.fwd_reshape.specs.declared.rules.Change.{Change}
use Rattle.fwd_reshape.specs.declared.rules.Change.TheVariants as change
use Rattle.fwd_settings_values.specs.declared.rules.ChangeWord.{ChangeWord}
use Rattle.fwd_settings_values.specs.declared.rules.ChangeWord.TheVariants as word
use Rattle.fwd_http.specs.declared.fields.HeaderField.{HeaderField}
use Rattle.fwd_http.specs.Fields.{is_field_name, is_field_value}
use Rattle.fwd_settings_values.specs.Text.{first_word, rest}

-- a key: it isn't empty and doesn't begin with a dollar
abbrev pub is_key : List ℕ → Bool
is_key [] = false
is_key (b ∷ bytes) = not (b == byte "$")

-- `KEY`, and nothing after it
abbrev pub one_key : List ℕ → Option (List ℕ)
one_key text = if is_key (first_word text) && length (rest text) == 0 then Some (first_word text) else None

-- `KEY REST`: the first word, and the whole rest
abbrev pub key_and_rest_of : List ℕ → Option (List ℕ × List ℕ)
key_and_rest_of text =
    if is_key (first_word text) && nat_lt 0 (length (rest text)) then Some (first_word text, rest text)
    else None

-- `KEY OTHER`: both are keys, and the other is the whole rest
abbrev pub two_keys : List ℕ → Option (List ℕ × List ℕ)
two_keys text =
    if is_key (first_word text) && is_key (rest text) then Some (first_word text, rest text) else None

-- a header field: its name is the first word, and its value the whole rest
abbrev pub header_of : List ℕ → Option HeaderField
header_of text =
    if is_field_name (first_word text) && (nat_lt 0 (length (rest text)) && is_field_value (rest text))
    then Some (record { name = first_word text; value = rest text })
    else None

-- A condition, by its first word, case ignored. Blanks that a replaced variable puts before a rule are
-- skipped.
abbrev pub condition_of : List ℕ → Option Condition
condition_of text =
    if str_eq_ignore_ascii_case (first_word text) (codes "key_exists")
    then option_map (λ k. condition.KeyExists k) (one_key (rest text))
    else
    (if str_eq_ignore_ascii_case (first_word text) (codes "key_does_not_exist")
    then option_map (λ k. condition.KeyDoesNotExist k) (one_key (rest text))
    else
    (if str_eq_ignore_ascii_case (first_word text) (codes "key_value_equals")
    then option_map (λ p. condition.KeyValueEquals p.0 p.1) (key_and_rest_of (rest text))
    else
    (if str_eq_ignore_ascii_case (first_word text) (codes "key_value_does_not_equal")
    then option_map (λ p. condition.KeyValueDoesNotEqual p.0 p.1) (key_and_rest_of (rest text))
    else None)))

-- the change that the text of a rule gives
abbrev pub change_of : ChangeWord → List ℕ → Option Change
change_of word.Set text = option_map (λ p. change.Set p.0 p.1) (key_and_rest_of text)
change_of word.Add text = option_map (λ p. change.Add p.0 p.1) (key_and_rest_of text)
change_of word.Remove text = option_map (λ k. change.Remove k) (one_key text)
change_of word.RemoveWildcard text = option_map (λ k. change.RemoveWildcard k) (one_key text)
change_of word.Rename text = option_map (λ p. change.Rename p.0 p.1) (two_keys text)
change_of word.HardRename text = option_map (λ p. change.HardRename p.0 p.1) (two_keys text)
change_of word.Copy text = option_map (λ p. change.Copy p.0 p.1) (two_keys text)
change_of word.HardCopy text = option_map (λ p. change.HardCopy p.0 p.1) (two_keys text)
