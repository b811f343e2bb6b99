-- The event of a line is shallow.
use Rattle.std.proofs.Common.{◌≡◌, ℕ, suc, pos, ◌≤◌, Bool, true, false, not, List, [], ◌∷◌, map, filter, position, remove, nat_lt, Option, Some, None, IfOk, Result, Ok, Err, option_map, unwrap_or, refl, arith}
use Rattle.std.specs.Prelude.{if◌then◌else◌}
use Rattle.std.specs.Option.{option_map_or}
use Rattle.std.specs.Result.{result_ok}
use Rattle.std.specs.Str.{is_utf8}
use Rattle.std.proofs.lemmas.Bool.{ltb-false}
use Rattle.regex.specs.Patterns.{find}
use Rattle.serde_json.specs.Data.{Num, unsigned, negative, float, Data, null, boolean, number, string, array, object, Items, no_items, item, Members, no_members, member, depth, items_depth, members_depth}
use Rattle.serde_json.specs.Read.{read}
use Rattle.fwd_base.specs.Pattern.{Captured, expression_of, group_names, captures_of}
use Rattle.fwd_value.specs.Val.{Val, truth, whole, text, float64}
use Rattle.fwd_value.specs.Limits.{nesting, nestings, entry_nestings}
use Rattle.fwd_value.specs.Keys.{Record, has_key}
use Rattle.fwd_json.specs.declared.floats.Floats.{Floats}
use Rattle.fwd_json.specs.declared.floats.Floats.TheVariants.{Tagged, Numbers}
use Rattle.fwd_json.specs.declared.reading.JsonErr.{JsonErr}
use Rattle.fwd_json.specs.LinePairs.{number_value, value_of, values_of, entries_in, pairs_of, are_readable, pairs_or, object_pairs, pairs_read, pairs_in}
use Rattle.fwd_parser.specs.Field.{integer_of, hex_of, truth_of, float_in, read_as, typed, kind_of, field_of, is_kept_group, fields_of}
use Rattle.fwd_parser.specs.LineEvent.{plain, body_of, Moment, clock_moment, field_moment, without, at, timed_event, parsed}
use Rattle.fwd_parser.specs.declared.parser.FieldType.{FieldType}
use Rattle.fwd_parser.specs.declared.parser.TypeKind.{TypeKind}
use Rattle.fwd_parser.specs.declared.parser.TypeKind.TheVariants as kind
use Rattle.fwd_parser.specs.declared.parser.Parser.{Parser}
use Rattle.fwd_parser.specs.declared.parser.Shape.{Shape}
use Rattle.fwd_parser.specs.declared.parser.Shape.TheVariants.{Plain, Json, Groups}
use Rattle.fwd_parser.specs.declared.parser.TimeRule.{TimeRule}
use Rattle.fwd_theorem_depth.proofs.Shallow.{Shallow}
use Rattle.fwd_theorem_depth.proofs.RecordDepth.{deep, deep-remove}

-- A line of JSON

abbrev Fits : Result Record JsonErr → Type 0
Fits r = IfOk r (λ body. deep body ≤ 62)

module _ (floats : Floats) where
  number_flat : (n : Num) → nesting (number_value floats n) ≤ 0
  number_flat (unsigned n) = omega arith
  number_flat (negative z) = omega arith
  number_flat (float x) = by floats
    where
      by : (f : Floats) → nesting (number_value f (float x)) ≤ 0
      by Tagged = omega arith
      by Numbers = omega arith

  mutual
    value_deep : (d : Data) → nesting (value_of floats d) ≤ depth d
    value_deep null = omega arith
    value_deep (boolean b) = omega arith
    value_deep (number n) = number_flat n
    value_deep (string s) = omega arith
    value_deep (array ds) = omega (arith, values_deep ds)
    value_deep (object ms) = omega (arith, entries_deep ms)

    values_deep : (ds : Items) → nestings (values_of floats ds) ≤ items_depth ds
    values_deep no_items = omega arith
    values_deep (item d ds) = omega (arith, value_deep d, values_deep ds)

    entries_deep : (ms : Members) → entry_nestings (entries_in floats ms) ≤ members_depth ms
    entries_deep no_members = omega arith
    entries_deep (member k d ms) = omega (arith, value_deep d, entries_deep ms)

  pairs_deep : (ms : Members) → deep (pairs_of floats ms) ≤ members_depth ms
  pairs_deep no_members = omega arith
  pairs_deep (member k d ms) = omega (arith, value_deep d, pairs_deep ms)

  deepest_fits : (t : Bool) (ms : Members) (e : JsonErr) → nat_lt 63 (suc (members_depth ms)) ≡ t → Fits (if t then Err e else Ok (pairs_of floats ms))
  deepest_fits true ms e is = tt
  deepest_fits false ms e is = omega (arith, ltb-false 63 (suc (members_depth ms)) is, pairs_deep ms)

  whole_fits : (t : Bool) (e : JsonErr) (r : Result Record JsonErr) → Fits r → Fits (if t then Err e else r)
  whole_fits true e r h = tt
  whole_fits false e r h = h

  members_fit : (ms : Members) → Fits (pairs_or floats ms)
  members_fit ms = whole_fits (not (are_readable floats ms)) _ _ (deepest_fits (nat_lt 63 (suc (members_depth ms))) ms _ refl)

  object_fits : (d : Data) → Fits (object_pairs floats d)
  object_fits null = tt
  object_fits (boolean b) = tt
  object_fits (number n) = tt
  object_fits (string s) = tt
  object_fits (array ds) = tt
  object_fits (object ms) = members_fit ms

  read_fits : (o : Option Data) → Fits (pairs_read floats o)
  read_fits None = tt
  read_fits (Some d) = object_fits d

  line_fits : (t : Bool) (o : Option Data) (e : JsonErr) → Fits (if t then pairs_read floats o else Err e)
  line_fits true o e = read_fits o
  line_fits false o e = tt

  json_fits : (line : List ℕ) → Fits (pairs_in floats line)
  json_fits line = line_fits (is_utf8 line) (read line) _

or_plain : (r : Result Record JsonErr) (line : List ℕ) → Fits r → deep (unwrap_or (result_ok r) (plain line)) ≤ 62
or_plain (Ok body) line h = h
or_plain (Err e) line h = omega arith

-- Fields of a pattern

flat : {A : Type 0} (f : A → Val) (o : Option A) (s : List ℕ) → ((x : A) → nesting (f x) ≤ 0) → nesting (unwrap_or (option_map f o) (text s)) ≤ 0
flat f None s h = omega arith
flat f (Some x) s h = h x

typed_flat : (floats : Floats) (k : TypeKind) (s : List ℕ) → nesting (typed floats k s) ≤ 0
unfolding typed read_as
typed_flat floats kind.Integer s = flat whole (integer_of s) s (λ n. omega arith)
typed_flat floats kind.Hex s = flat (λ n. whole (pos n)) (hex_of s) s (λ n. omega arith)
typed_flat floats kind.Bool s = flat truth (truth_of s) s (λ b. omega arith)
typed_flat floats kind.Float s = flat float64 (float_in floats s) s (λ n. omega arith)
typed_flat floats kind.Text s = omega arith

fields_deep : (floats : Floats) (types : List FieldType) (groups : List Captured) → deep (map (field_of floats types) groups) ≤ 62
fields_deep floats types [] = omega arith
fields_deep floats types (g ∷ groups) = omega (arith, typed_flat floats (kind_of types g.name) g.bytes, fields_deep floats types groups)

matched_deep : {M : Type 0} (floats : Floats) (types : List FieldType) (skip_empty : Bool) (captures : M → List Captured) (o : Option M) (line : List ℕ)
    → deep (option_map_or (λ m. fields_of floats types skip_empty (captures m)) o (plain line)) ≤ 62
matched_deep floats types skip_empty captures None line = omega arith
matched_deep floats types skip_empty captures (Some m) line = fields_deep floats types (filter (is_kept_group skip_empty) (captures m))

body_deep : (floats : Floats) (shape : Shape) (line : List ℕ) → deep (body_of floats shape line) ≤ 62
unfolding body_of
body_deep floats Plain line = omega arith
body_deep floats Json line = or_plain (pairs_in floats line) line (json_fits floats line)
body_deep floats (Groups pattern types skip_empty) line = matched_deep floats types skip_empty (captures_of (group_names pattern) line) (find (expression_of pattern) line 0) line

-- The time

removed_deep : (o : Option ℕ) (body : Record) → deep (option_map_or (remove body) o body) ≤ deep body
removed_deep None body = omega arith
removed_deep (Some i) body = deep-remove body i

without_deep : (k : List ℕ) (body : Record) → deep (without k body) ≤ deep body
unfolding without
without_deep k body = removed_deep (position (has_key k) body) body

at_shallow : (moment : Moment) (body : Record) → deep body ≤ 62 → Shallow (at moment body)
at_shallow moment body h = record { meta = omega arith; body = omega (arith, h) }

kept_shallow : (b : Bool) (k : List ℕ) (moment : Moment) (body : Record) → deep body ≤ 62 → Shallow (at moment (if b then body else without k body))
kept_shallow true k moment body h = at_shallow moment body h
kept_shallow false k moment body h = at_shallow moment (without k body) (omega (arith, h, without_deep k body))

timed_by : (o : Option Moment) (rule : TimeRule) (clock : ℕ) (body : Record) → deep body ≤ 62
    → Shallow (option_map_or (λ moment. at moment (if rule.keep then body else without rule.key body)) o (at (clock_moment clock) body))
timed_by None rule clock body h = at_shallow (clock_moment clock) body h
timed_by (Some moment) rule clock body h = kept_shallow rule.keep rule.key moment body h

timed_shallow : (rule : Option TimeRule) (clock : ℕ) (body : Record) → deep body ≤ 62 → Shallow (timed_event rule clock body)
unfolding timed_event
timed_shallow None clock body h = at_shallow (clock_moment clock) body h
timed_shallow (Some rule) clock body h = timed_by (field_moment rule body) rule clock body h

pub parsed_shallow : (parser : Parser) (line : List ℕ) (clock : ℕ) → Shallow (parsed parser line clock)
unfolding parsed
parsed_shallow parser line clock = timed_shallow parser.time clock (body_of parser.floats parser.shape line) (body_deep parser.floats parser.shape line)
