-- Which records a list of rules keeps, as the Fluent Bit manual's page on Grep says.
use Rattle.std.specs.Prelude.{ℕ, List, Bool, true, false, not, Option, Some, None, is_some, if◌then◌else◌, codes}
use Rattle.std.specs.Fmt.{signed_decimal}
use Rattle.std.specs.List.{list_all}
use Rattle.std.specs.Option.{option_map_or}
use Rattle.regex.specs.Patterns.{Re, find}
use Rattle.std.specs.Float.Ieee.{Format, binary32, binary64}
use Rattle.fwd_base.specs.Pattern.{expression_of}
use Rattle.fwd_float.specs.FloatText.{float_text}
use Rattle.fwd_json.specs.declared.floats.Floats.{Floats}
use Rattle.fwd_json.specs.declared.floats.Floats.TheVariants.{Tagged, Numbers}
use Rattle.fwd_value.specs.Val.{Val, truth, whole, text, bin, float32, float64}
use Rattle.fwd_value.specs.Keys.{Record, key}
use Rattle.fwd_grep.specs.declared.rules.GrepRule.{GrepRule}

-- the text of a float that is a number in JSON
abbrev pub number_text : Floats → Format → ℕ → Option (List ℕ)
number_text Tagged f bits = None
number_text Numbers f bits = Some (float_text f bits)

-- the bytes that a pattern is compared with: text or bin as they are, a whole number in decimal, a truth
-- value by its name, and a float by its JSON text where floats are numbers; other values have none
abbrev pub compared : Floats → Val → Option (List ℕ)
compared floats (text s) = Some s
compared floats (bin s) = Some s
compared floats (whole n) = Some (signed_decimal n)
compared floats (truth true) = Some (codes "true")
compared floats (truth false) = Some (codes "false")
compared floats (float32 bits) = number_text floats binary32 bits
compared floats (float64 bits) = number_text floats binary64 bits
compared floats _ = None

-- what a rule's pattern searches for
abbrev pub searched_pattern : GrepRule → Re
searched_pattern rule = expression_of rule.pattern

-- whether it is found in the bytes
abbrev pub is_found : Re → List ℕ → Bool
is_found wanted s = is_some (find wanted s 0)

-- whether the value matches
abbrev pub matches : Floats → Re → Val → Bool
matches floats wanted v = option_map_or (is_found wanted) (compared floats v) false

-- whether the value of the first pair with the key matches; a missing key doesn't
abbrev pub key_matches : GrepRule → Record → Bool
key_matches rule body =
    option_map_or (λ p. matches rule.floats (searched_pattern rule) p.1) (key body rule.key) false

-- Regex drops an event whose value doesn't match, Exclude one whose value matches
abbrev pub passes : Record → GrepRule → Bool
passes body rule = if rule.exclude then not (key_matches rule body) else key_matches rule body

-- whether every rule keeps the event
abbrev pub kept : List GrepRule → Record → Bool
kept rules body = list_all (passes body) rules
