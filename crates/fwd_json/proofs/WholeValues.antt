-- The values of data without floats, and the depth of values.
use Rattle.std.proofs.Common.{◌≡◌, ℕ, suc, max, ap₂, Bool, true, false, ◌&&◌, List, [], ◌∷◌, ◌++◌, map, Option, Some, None, option_map, refl, ap, arith}
use Rattle.json.specs.Token.{Token}
use Rattle.json.specs.Json as json
use Rattle.serde_json.specs.Data.{Data, Num, unsigned, negative, float, null, boolean, number, string, array, object, Items, no_items, item, Members, no_members, member, depth, items_depth, members_depth}
use Rattle.serde_json.specs.Read.{number_of, of_json, converted}
use Rattle.serde_json.specs.View.{items_of}
use Rattle.fwd_value.specs.Val.{Val, vals_of, entries_of, val, entry, text, list, mapping}
use Rattle.fwd_value.specs.Limits.{nesting, nestings, entry_nestings}
use Rattle.fwd_json.specs.declared.floats.Floats.{Floats}
use Rattle.fwd_json.specs.declared.floats.Floats.TheVariants.{Tagged, Numbers}
use Rattle.fwd_json.specs.LinePairs.{all_whole, items_whole, members_whole, are_readable, number_value, value_of, values_of, entries_in, pairs_of}
use Rattle.fwd_json.specs.WholeVal.{has_no_float, have_no_float, entries_have_no_float}

mutual
  value_is_whole : (d : Data) → has_no_float (value_of Numbers d) ≡ all_whole d
  value_is_whole null = refl
  value_is_whole (boolean b) = refl
  value_is_whole (number (unsigned n)) = refl
  value_is_whole (number (negative z)) = refl
  value_is_whole (number (float x)) = refl
  value_is_whole (string s) = refl
  value_is_whole (array ds) = values_are_whole ds
  value_is_whole (object ms) = entries_are_whole ms

  values_are_whole : (ds : Items) → have_no_float (values_of Numbers ds) ≡ items_whole ds
  values_are_whole no_items = refl
  values_are_whole (item d ds) = ap₂ (λ (a b : Bool). a && b) (value_is_whole d) (values_are_whole ds)

  pub entries_are_whole : (ms : Members) → entries_have_no_float (entries_in Numbers ms) ≡ members_whole ms
  entries_are_whole no_members = refl
  entries_are_whole (member k d ms) = ap₂ (λ (a b : Bool). a && b) (value_is_whole d) (entries_are_whole ms)

both : (a b : Bool) → (a && b) ≡ true → (a ≡ true) × (b ≡ true)
both true b e = (refl, e)
both false b e = absurd (cc)

mutual
  whole_value : (d : Data) → all_whole d ≡ true → value_of Numbers d ≡ value_of Tagged d
  whole_value null e = refl
  whole_value (boolean b) e = refl
  whole_value (number (unsigned n)) e = refl
  whole_value (number (negative z)) e = refl
  whole_value (number (float x)) e = absurd (cc)
  whole_value (string s) e = refl
  whole_value (array ds) e = ap list (whole_values ds e)
  whole_value (object ms) e = ap mapping (whole_entries ms e)

  whole_values : (ds : Items) → items_whole ds ≡ true → values_of Numbers ds ≡ values_of Tagged ds
  whole_values no_items e = refl
  whole_values (item d ds) e = let h = both (all_whole d) (items_whole ds) e in ap₂ val (whole_value d h.0) (whole_values ds h.1)

  whole_entries : (ms : Members) → members_whole ms ≡ true → entries_in Numbers ms ≡ entries_in Tagged ms
  whole_entries no_members e = refl
  whole_entries (member k d ms) e = let h = both (all_whole d) (members_whole ms) e in ap₂ (entry (text k)) (whole_value d h.0) (whole_entries ms h.1)

pub whole_pairs : (ms : Members) → members_whole ms ≡ true → pairs_of Numbers ms ≡ pairs_of Tagged ms
whole_pairs no_members e = refl
whole_pairs (member k d ms) e =
    let h = both (all_whole d) (members_whole ms) e in
    ap₂ (λ (v : Val) (ps : List (Val × Val)). (text k, v) ∷ ps) (whole_value d h.0) (whole_pairs ms h.1)

mutual
  value_depth : (d : Data) → nesting (value_of Numbers d) ≡ depth d
  value_depth null = refl
  value_depth (boolean b) = refl
  value_depth (number (unsigned n)) = refl
  value_depth (number (negative z)) = refl
  value_depth (number (float x)) = refl
  value_depth (string s) = refl
  value_depth (array ds) = ap suc (values_depth ds)
  value_depth (object ms) = ap suc (entries_depth ms)

  values_depth : (ds : Items) → nestings (values_of Numbers ds) ≡ items_depth ds
  values_depth no_items = refl
  values_depth (item d ds) = ap₂ max (value_depth d) (values_depth ds)

  pub entries_depth : (ms : Members) → entry_nestings (entries_in Numbers ms) ≡ members_depth ms
  entries_depth no_members = refl
  entries_depth (member k d ms) = omega (arith, value_depth d, entries_depth ms)

-- the pairs that a map is made of
entries_of-same : (ms : Members) (ps : List (Val × Val)) → entries_in Numbers ms ≡ entries_of ps → pairs_of Numbers ms ≡ ps
entries_of-same no_members [] e = refl
entries_of-same no_members (p ∷ ps) e = absurd (cc)
entries_of-same (member k d ms) [] e = absurd (cc)
entries_of-same (member k d ms) (p ∷ ps) e =
    let key : text k ≡ p.0 = cc in
    let value : value_of Numbers d ≡ p.1 = cc in
    let more : entries_in Numbers ms ≡ entries_of ps = cc in
    let rest = entries_of-same ms ps more in
    λ i. (key i, value i) ∷ rest i

pub from_map : (d : Data) (ps : List (Val × Val)) → value_of Numbers d ≡ mapping (entries_of ps) → (ms : Members) × (d ≡ object ms) × (pairs_of Numbers ms ≡ ps)
from_map null ps e = absurd (cc)
from_map (boolean b) ps e = absurd (cc)
from_map (number (unsigned n)) ps e = absurd (cc)
from_map (number (negative z)) ps e = absurd (cc)
from_map (number (float x)) ps e = absurd (cc)
from_map (string s) ps e = absurd (cc)
from_map (array ds) ps e = absurd (cc)
from_map (object ms) ps e = let same : entries_in Numbers ms ≡ entries_of ps = cc in (ms, refl, entries_of-same ms ps same)

pub values_of-map : (ds : List Data) → values_of Numbers (items_of ds) ≡ vals_of (map (value_of Numbers) ds)
values_of-map [] = refl
values_of-map (d ∷ ds) = ap (val (value_of Numbers d)) (values_of-map ds)

pub values_push : (ds : List Data) (d : Data) → map (value_of Numbers) (ds ++ d ∷ []) ≡ map (value_of Numbers) ds ++ value_of Numbers d ∷ []
values_push [] d = refl
values_push (e ∷ ds) d = ap (λ (vs : List Val). value_of Numbers e ∷ vs) (values_push ds d)

pub entries_of-pairs_of : (ms : Members) → entries_of (pairs_of Numbers ms) ≡ entries_in Numbers ms
entries_of-pairs_of no_members = refl
entries_of-pairs_of (member k d ms) = ap (entry (text k) (value_of Numbers d)) (entries_of-pairs_of ms)

-- the number whose value was read, if there is one
number_found : (o : Option Num) (v : Val) → option_map (number_value Numbers) o ≡ Some v → (n : Num) × (o ≡ Some n) × (number_value Numbers n ≡ v)
number_found None v e = absurd (cc)
number_found (Some n) v e = let same : number_value Numbers n ≡ v = cc in (n, refl, same)

number_missing : (o : Option Num) → option_map (number_value Numbers) o ≡ None → o ≡ None
number_missing None e = refl
number_missing (Some n) e = absurd (cc)

pub number_read : (s : List ℕ) (r : List Token) (v : Val) → option_map (number_value Numbers) (number_of s) ≡ Some v → (d : Data) × (converted of_json (Some (json.number s, r)) ≡ Some (d, r)) × (value_of Numbers d ≡ v)
number_read s r v e =
    let n = number_found (number_of s) v e in
    (number n.0, ap (λ (o : Option Num). option_map {U = Data × List Token} (λ d. (d, r)) (option_map number o)) n.1, n.2)

pub number_refused : (s : List ℕ) (r : List Token) → option_map (number_value Numbers) (number_of s) ≡ None → converted of_json (Some (json.number s, r)) ≡ None
number_refused s r e = ap (λ (o : Option Num). option_map {U = Data × List Token} (λ d. (d, r)) (option_map number o)) (number_missing (number_of s) e)

-- what can be read is read the same way
pub readable_pairs : (floats : Floats) (ms : Members) → are_readable floats ms ≡ true → pairs_of Numbers ms ≡ pairs_of floats ms
readable_pairs Tagged ms e = whole_pairs ms e
readable_pairs Numbers ms e = refl
