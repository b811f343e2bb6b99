-- What `nest` and `lift` do, as the Fluent Bit manual's page on Nest says.
use Rattle.std.specs.Prelude.{ℕ, ◌-◌, List, [], ◌∷◌, ◌++◌, Bool, false, ◌&&◌, not, if◌then◌else◌, filter, map, drop, take, length, nat_eq, nat_le}
use Rattle.std.specs.List.{list_any, starts_with, ends_with}
use Rattle.std.specs.Option.{option_map_or}
use Rattle.std.specs.Str.{bytes_eq}
use Rattle.fwd_base.specs.Limits.{deepest}
use Rattle.fwd_value.specs.Val.{Val, text, mapping, Entries, no_entries, entry, entries_of}
use Rattle.fwd_value.specs.Limits.{nesting}
use Rattle.fwd_value.specs.Keys.{Record, has_key, key}
use Rattle.fwd_reshape.specs.declared.rules.NestRule.{NestRule}
use Rattle.fwd_reshape.specs.declared.rules.LiftRule.{LiftRule}

-- A wildcard that ends in a star (42) matches the keys that begin with what comes before the star; any
-- other matches its own text only.
abbrev pub wildcard_matches : List ℕ → List ℕ → Bool
wildcard_matches s wildcard =
    if ends_with nat_eq wildcard (42 ∷ [])
    then starts_with nat_eq s (take (length wildcard - 1) wildcard) else bytes_eq s wildcard

-- whether one of the wildcards matches the key, which must be a text
abbrev pub is_matched : List (List ℕ) → Val → Bool
is_matched wildcards (text s) = list_any (wildcard_matches s) wildcards
is_matched wildcards _ = false

-- a text without the prefix, if it has it
abbrev pub without_prefix : List ℕ → List ℕ → List ℕ
without_prefix prefix s = if starts_with nat_eq s prefix then drop (length prefix) s else s

-- a text key that is moved: it loses the one prefix if it has it, then gets the other
abbrev pub moved_key : List ℕ → List ℕ → Val → Val
moved_key remove add (text s) = text (add ++ without_prefix remove s)
moved_key remove add k = k

abbrev pub moved : List ℕ → List ℕ → Record → Record
moved remove add body = map (λ p. (moved_key remove add p.0, p.1)) body

-- whether a record of these pairs isn't nested too deep for an event with it, which is one deeper
abbrev pub fits : Record → Bool
fits body = nat_le (nesting (mapping (entries_of body))) (deepest - 1)

-- the pairs that the wildcards match leave the record, and a map of them is appended
abbrev pub gathered : NestRule → Record → Record
gathered rule body =
    let taken = filter (λ p. is_matched rule.wildcards p.0) body in
    filter (λ p. not (is_matched rule.wildcards p.0)) body
    ++ (text rule.under, mapping (entries_of (moved rule.remove_prefix rule.add_prefix taken))) ∷ []

-- nest: if none match, or the record would be nested too deep, it is unchanged
abbrev pub nested : NestRule → Record → Record
nested rule body =
    if list_any (λ p. is_matched rule.wildcards p.0) body && fits (gathered rule body)
    then gathered rule body else body

-- the pairs of a map, in order
abbrev pub pairs_of : Entries → Record
pairs_of no_entries = []
pairs_of (entry k v es) = (k, v) ∷ pairs_of es

-- the first pair that passes is removed
abbrev pub without_first : (Val × Val → Bool) → Record → Record
without_first test [] = []
without_first test (p ∷ body) = if test p then body else p ∷ without_first test body

-- the pair is removed, and the pairs of its map are appended in order
abbrev pub lifted_out : LiftRule → Entries → Record → Record
lifted_out rule es body =
    without_first (has_key rule.under) body ++ moved rule.remove_prefix rule.add_prefix (pairs_of es)

-- a record that would be nested too deep is unchanged
abbrev pub lifted_from : LiftRule → Record → Val → Record
lifted_from rule body (mapping es) = if fits (lifted_out rule es body) then lifted_out rule es body else body
lifted_from rule body _ = body

-- lift: if the first pair with the key has a map
abbrev pub lifted : LiftRule → Record → Record
lifted rule body = option_map_or (λ p. lifted_from rule body p.1) (key body rule.under) body
