-- The record of a line of JSON is in range: its numbers are integers of at most 64 bits, or floats of 64.
use Rattle.std.proofs.Common.{ℕ, zero, suc, ◌<◌, ◌≤◌, ◌^◌, pos, neg_ℤ, Bool, true, false, not, ◌&&◌, List, drop, Option, Some, None, IfSome, IfOk, Result, Ok, Err, option_map, option_and_then, Ordering, Less, Equal, Greater, arith}
use Rattle.std.specs.Prelude.{if◌then◌else◌, nat_lt, nat_le, slice_index, ◌==◌, to_bits}
use Rattle.std.specs.Ordering.{match_ordering, nat_cmp}
use Rattle.std.specs.Cmp.Lexicographic.{slice_cmp}
use Rattle.std.specs.Str.{is_utf8}
use Rattle.std.specs.Float.{Float, binary64, float_is_finite}
use Rattle.std.proofs.lemmas.Bool.{ltb-true, leb-true, and_parts}
use Rattle.fast_float.specs.Text.{Parts, scan, minus, digits_of, nearest, with_sign}
use Rattle.json.specs.Json as json
use Rattle.json.specs.Lex.{tokens}
use Rattle.serde_json.specs.Data.{Num, unsigned, negative, float, Data, null, boolean, number, string, array, object, Items, no_items, item, Members, no_members, member, put, depth}
use Rattle.serde_json.specs.Read.{is_integer, float_of, number_from, number_of, of_json, of_items, of_members, max_depth, read}
use Rattle.fwd_value.specs.Limits.{IsWhole, IsInRange, AreInRange, EntriesAreInRange}
use Rattle.fwd_value.specs.Keys.{Record}
use Rattle.fwd_json.specs.declared.floats.Floats.{Floats}
use Rattle.fwd_json.specs.declared.floats.Floats.TheVariants.{Tagged, Numbers}
use Rattle.fwd_json.specs.declared.reading.JsonErr.{JsonErr}
use Rattle.fwd_json.specs.LinePairs.{number_value, value_of, values_of, entries_in, pairs_of, are_readable, pairs_or, object_pairs, pairs_read, pairs_in}
use Rattle.fwd_theorem_depth.proofs.Options.{if_mapped, if_then, if_either, if_tested, Any, any_of}
use Rattle.fwd_theorem_depth.proofs.FloatRanges.{bits_below, nearest_fits}
use Rattle.fwd_theorem_depth.proofs.RecordRanges.{IsRanged}

-- the negative of a number up to 2^63
pub negative_fits : (n : ℕ) → n ≤ 2 ^ 63 → IsWhole (neg_ℤ (pos n))
negative_fits zero h = omega arith
negative_fits (suc n) h = omega (arith, h)

-- ---- the data of a text

abbrev NumFits : Num → Type 0
NumFits (unsigned n) = n < 2 ^ 64
NumFits (negative z) = IsWhole z
NumFits (float x) = to_bits binary64 x < 2 ^ 64

abbrev mutual
  DataFits : Data → Type 0
  DataFits null = Unit {0}
  DataFits (boolean b) = Unit {0}
  DataFits (number n) = NumFits n
  DataFits (string s) = Unit {0}
  DataFits (array ds) = ItemsFit ds
  DataFits (object ms) = MembersFit ms

  ItemsFit : Items → Type 0
  ItemsFit no_items = Unit {0}
  ItemsFit (item d ds) = DataFits d × ItemsFit ds

  MembersFit : Members → Type 0
  MembersFit no_members = Unit {0}
  MembersFit (member k d ms) = DataFits d × MembersFit ms

float_fits : (sign : Bool) (p : Parts) → IfSome (float_of sign p) NumFits
float_fits sign p = if_tested NumFits (float_is_finite (nearest binary64 sign p)) (float (nearest binary64 sign p)) None (λ is. bits_below (nearest binary64 sign p) (nearest_fits sign p)) tt

from_fits : (sign : Bool) (p : Parts) → IfSome (number_from sign p) NumFits
from_fits false p =
    if_tested NumFits (is_integer p && nat_lt (digits_of p) (2 ^ 64)) (unsigned (digits_of p)) (float_of false p)
    (λ is. ltb-true (digits_of p) (2 ^ 64) (and_parts (is_integer p) (nat_lt (digits_of p) (2 ^ 64)) is).1) (float_fits false p)
from_fits true p =
    if_tested NumFits (is_integer p && nat_lt 0 (digits_of p) && nat_le (digits_of p) (2 ^ 63)) (negative (with_sign true (digits_of p))) (float_of true p)
    (λ is. negative_fits (digits_of p) (leb-true (digits_of p) (2 ^ 63) (and_parts (is_integer p && nat_lt 0 (digits_of p)) (nat_le (digits_of p) (2 ^ 63)) is).1)) (float_fits true p)

number_fits : (s : List ℕ) → IfSome (number_of s) NumFits
unfolding number_of
number_fits s = if_either NumFits (slice_index s 0 == minus) (number_from true (scan (drop 1 s))) (number_from false (scan s)) (from_fits true (scan (drop 1 s))) (from_fits false (scan s))

ordered_fit : (o : Ordering) (a b c : Members) → MembersFit a → MembersFit b → MembersFit c → MembersFit (match_ordering o a b c)
ordered_fit Less a b c x y z = x
ordered_fit Equal a b c x y z = y
ordered_fit Greater a b c x y z = z

put_fits : (k : List ℕ) (d : Data) (ms : Members) → DataFits d → MembersFit ms → MembersFit (put k d ms)
put_fits k d no_members h m = (h, tt)
put_fits k d (member l e ms) h m =
    ordered_fit (slice_cmp nat_cmp k l) (member k d (member l e ms)) (member l d ms) (member l e (put k d ms)) (h, m) (h, m.1) (m.0, put_fits k d ms h m.1)

mutual
  json_fits : (j : json.Json) → IfSome (of_json j) DataFits
  json_fits json.null = tt
  json_fits (json.boolean b) = tt
  json_fits (json.number s) = if_mapped NumFits DataFits number (number_of s) (λ n h. h) (number_fits s)
  json_fits (json.string s) = tt
  json_fits (json.array js) = if_mapped ItemsFit DataFits array (of_items js) (λ ds h. h) (items_fit js)
  json_fits (json.object ms) = if_mapped MembersFit DataFits object (of_members ms no_members) (λ found h. h) (members_fit ms no_members tt)

  items_fit : (js : json.Items) → IfSome (of_items js) ItemsFit
  items_fit json.no_items = tt
  items_fit (json.item j js) =
      if_then DataFits ItemsFit (λ d. option_map (item d) (of_items js)) (of_json j) (λ d h. if_mapped ItemsFit ItemsFit (item d) (of_items js) (λ ds more. (h, more)) (items_fit js)) (json_fits j)

  members_fit : (ms : json.Members) (found : Members) → MembersFit found → IfSome (of_members ms found) MembersFit
  members_fit json.no_members found h = h
  members_fit (json.member k j ms) found h =
      if_then DataFits MembersFit (λ d. of_members ms (put k d found)) (of_json j) (λ d is. members_fit ms (put k d found) (put_fits k d found is h)) (json_fits j)

parsed_fits : (o : Option json.Json) → IfSome (option_and_then of_json o) DataFits
parsed_fits o = if_then Any DataFits of_json o (λ j is. json_fits j) (any_of o)

read_fits : (line : List ℕ) → IfSome (read line) DataFits
read_fits line = parsed_fits (option_and_then (λ p. json.if_last p.0 p.1) (json.value max_depth (tokens line)))

-- ---- its value

float_ranged : (floats : Floats) (x : Float) → NumFits (float x) → IsInRange (number_value floats (float x))
float_ranged Tagged x h = tt
float_ranged Numbers x h = h

abbrev pub AreRanged : Result Record JsonErr → Type 0
AreRanged r = IfOk r IsRanged

module _ (floats : Floats) where
  number_ranged : (n : Num) → NumFits n → IsInRange (number_value floats n)
  number_ranged (unsigned n) h = h
  number_ranged (negative z) h = h
  number_ranged (float x) h = float_ranged floats x h

  mutual
    value_ranged : (d : Data) → DataFits d → IsInRange (value_of floats d)
    value_ranged null h = tt
    value_ranged (boolean b) h = tt
    value_ranged (number n) h = number_ranged n h
    value_ranged (string s) h = tt
    value_ranged (array ds) h = values_ranged ds h
    value_ranged (object ms) h = entries_ranged ms h

    values_ranged : (ds : Items) → ItemsFit ds → AreInRange (values_of floats ds)
    values_ranged no_items h = tt
    values_ranged (item d ds) h = (value_ranged d h.0, values_ranged ds h.1)

    entries_ranged : (ms : Members) → MembersFit ms → EntriesAreInRange (entries_in floats ms)
    entries_ranged no_members h = tt
    entries_ranged (member k d ms) h = (tt, value_ranged d h.0, entries_ranged ms h.1)

  pairs_ranged : (ms : Members) → MembersFit ms → IsRanged (pairs_of floats ms)
  pairs_ranged no_members h = tt
  pairs_ranged (member k d ms) h = (tt, value_ranged d h.0, pairs_ranged ms h.1)

  unless : (b : Bool) (e : JsonErr) (r : Result Record JsonErr) → AreRanged r → AreRanged (if b then Err e else r)
  unless true e r h = tt
  unless false e r h = h

  shallow_ranged : (ms : Members) (e : JsonErr) → MembersFit ms → AreRanged (if nat_lt 63 (depth (object ms)) then Err e else Ok (pairs_of floats ms))
  shallow_ranged ms e h = unless (nat_lt 63 (depth (object ms))) e (Ok (pairs_of floats ms)) (pairs_ranged ms h)

  members_ranged : (ms : Members) → MembersFit ms → AreRanged (pairs_or floats ms)
  members_ranged ms h = unless (not (are_readable floats ms)) _ _ (shallow_ranged ms _ h)

  object_ranged : (d : Data) → DataFits d → AreRanged (object_pairs floats d)
  object_ranged null h = tt
  object_ranged (boolean b) h = tt
  object_ranged (number n) h = tt
  object_ranged (string s) h = tt
  object_ranged (array ds) h = tt
  object_ranged (object ms) h = members_ranged ms h

  read_ranged : (o : Option Data) → IfSome o DataFits → AreRanged (pairs_read floats o)
  read_ranged None h = tt
  read_ranged (Some d) h = object_ranged d h

  line_ranged : (t : Bool) (o : Option Data) (e : JsonErr) → IfSome o DataFits → AreRanged (if t then pairs_read floats o else Err e)
  line_ranged true o e h = read_ranged o h
  line_ranged false o e h = tt

  pub json_ranged : (line : List ℕ) → AreRanged (pairs_in floats line)
  json_ranged line = line_ranged (is_utf8 line) (read line) _ (read_fits line)
