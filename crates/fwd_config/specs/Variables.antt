-- Variables, and their replacement in values.
use Rattle.std.specs.Prelude.{ℕ, zero, suc, ◌+◌, String, Bool, false, ◌&&◌, ◌||◌, ◌==◌, not, if◌then◌else◌, List, [], ◌∷◌, ◌++◌, length, take, drop, codes}
use Rattle.std.specs.List.{before_first, list_any}
use Rattle.std.specs.Str.{bytes_eq}
use Rattle.std.specs.String.{string_bytes}

-- The value of each name; a name that isn't set has the empty value. Names are case-sensitive.
abbrev pub Values : Type 0
Values = List ℕ → List ℕ

-- the values with one more, which takes precedence
abbrev pub with_value : Values → List ℕ → List ℕ → Values
with_value values name value other = if bytes_eq name other then value else values other

-- the values of the environment: of several pairs with one name the first counts
abbrev pub environment : {Y : Type 0} → List (String Y × String Y) → Values
environment [] = λ name. []
environment (pair ∷ pairs) = with_value (environment pairs) (string_bytes pair.0) (string_bytes pair.1)

-- the text begins with `${`
abbrev pub begins_variable : List ℕ → Bool
begins_variable text = bytes_eq (take 2 text) (codes "${")

-- some `${` has no `}` after it
abbrev pub has_open_brace : List ℕ → Bool
has_open_brace [] = false
has_open_brace (byte ∷ bytes) =
    (begins_variable (byte ∷ bytes) && not (list_any (λ b. b == 125) bytes)) || has_open_brace bytes

-- the name after a `${`, up to the first `}`
abbrev pub name_after : List ℕ → List ℕ
name_after text = before_first (λ b. b == 125) text

-- A value with each `${NAME}` replaced, in one pass: text that was put in isn't scanned again. The first
-- `passed` bytes belong to a `${NAME}` that was replaced.
abbrev pub replace_variables_from : Values → ℕ → List ℕ → List ℕ
replace_variables_from values passed [] = []
replace_variables_from values (suc passed) (byte ∷ bytes) = replace_variables_from values passed bytes
replace_variables_from values zero (byte ∷ bytes) =
    if begins_variable (byte ∷ bytes)
    then values (name_after (drop 1 bytes))
    ++ replace_variables_from values (length (name_after (drop 1 bytes)) + 2) bytes
    else byte ∷ replace_variables_from values zero bytes

abbrev pub replace_variables : Values → List ℕ → List ℕ
replace_variables values value = replace_variables_from values 0 value
