-- The event of a line is in range.
use Rattle.std.proofs.Common.{ℕ, ◌<◌, ◌^◌, pos, neg_ℤ, Bool, true, false, not, ◌&&◌, List, [], ◌∷◌, length, map, filter, position, remove, Option, Some, None, IfSome, Result, Ok, Err, option_map, option_and_then, unwrap_or}
use Rattle.std.specs.Prelude.{if◌then◌else◌, nat_lt, nat_le, ◌==◌, T, to_bits}
use Rattle.std.specs.Char.{is_digit}
use Rattle.std.specs.List.{list_all}
use Rattle.std.specs.Option.{option_map_or}
use Rattle.std.specs.Result.{result_ok}
use Rattle.std.specs.Str.{byte}
use Rattle.std.specs.Float.{Float, binary64, float_is_finite}
use Rattle.std.proofs.lemmas.Bool.{ltb-true, leb-true, and_parts}
use Rattle.regex.specs.Patterns.{find}
use Rattle.fwd_base.specs.Pattern.{Captured, expression_of, group_names, captures_of}
use Rattle.fwd_value.specs.Val.{Val, truth, whole, text, float64}
use Rattle.fwd_value.specs.Limits.{IsWhole, IsInRange}
use Rattle.fwd_value.specs.Keys.{Record, has_key}
use Rattle.fast_float.specs.Parse.{parse_float}
use Rattle.fwd_json.specs.declared.floats.Floats.{Floats}
use Rattle.fwd_json.specs.declared.floats.Floats.TheVariants.{Tagged, Numbers}
use Rattle.fwd_json.specs.declared.reading.JsonErr.{JsonErr}
use Rattle.fwd_json.specs.LinePairs.{pairs_in}
use Rattle.fwd_parser.specs.Number.{value_in, number_in}
use Rattle.fwd_parser.specs.Field.{below_zero, integer_of, hex_of, truth_of, finite_bits, float_of, float_in, read_as, typed, kind_of, field_of, is_kept_group, fields_of}
use Rattle.fwd_parser.specs.LineEvent.{plain, body_of, Moment, clock_moment, field_moment, without, at, timed_event, parsed}
use Rattle.fwd_parser.specs.declared.parser.FieldType.{FieldType}
use Rattle.fwd_parser.specs.declared.parser.TypeKind.{TypeKind}
use Rattle.fwd_parser.specs.declared.parser.TypeKind.TheVariants as kind
use Rattle.fwd_parser.specs.declared.parser.Parser.{Parser}
use Rattle.fwd_parser.specs.declared.parser.Shape.{Shape}
use Rattle.fwd_parser.specs.declared.parser.Shape.TheVariants.{Plain, Json, Groups}
use Rattle.fwd_parser.specs.declared.parser.TimeRule.{TimeRule}
use Rattle.fwd_theorem_depth.specs.Ranges.{NumbersFit}
use Rattle.fwd_theorem_depth.proofs.Options.{if_mapped, if_then, if_either, if_tested, Any, any_of}
use Rattle.fwd_theorem_depth.proofs.RecordRanges.{IsRanged, ranged-remove}
use lib.Ieee.{fits}
use Rattle.fwd_theorem_depth.proofs.FloatRanges.{bits_below, parsed_fits}
use Rattle.fwd_theorem_depth.proofs.JsonRanges.{negative_fits, AreRanged, json_ranged}
use Rattle.fwd_theorem_depth.proofs.TimeRanges.{MomentFits, clock_fits, field_fits}

or_plain : (r : Result Record JsonErr) (line : List ℕ) → AreRanged r → IsRanged (unwrap_or (result_ok r) (plain line))
or_plain (Ok body) line h = h
or_plain (Err e) line h = (tt, tt, tt)

-- ---- fields of a pattern

abbrev Has64 : ℕ → Type 0
Has64 n = n < 2 ^ 64

number_in_below : (base : ℕ) (s : List ℕ) → IfSome (number_in base s) Has64
unfolding number_in
number_in_below base s =
    let are_digits : Bool = not (length s == 0) && list_all (λ c. is_digit c base) s in
    if_tested Has64 (are_digits && nat_lt (value_in base s) (2 ^ 64)) (value_in base s) None
    (λ is. ltb-true (value_in base s) (2 ^ 64) (and_parts are_digits (nat_lt (value_in base s) (2 ^ 64)) is).1) tt

minus_fits : (n : ℕ) → IfSome (below_zero n) IsWhole
minus_fits n = if_tested IsWhole (nat_le n (2 ^ 63)) (neg_ℤ (pos n)) None (λ is. negative_fits n (leb-true n (2 ^ 63) is)) tt

integer_fits : (s : List ℕ) → IfSome (integer_of s) IsWhole
unfolding integer_of
integer_fits [] = tt
integer_fits (b ∷ digits) =
    if_either IsWhole (b == byte "-") (option_and_then below_zero (number_in 10 digits)) (option_map pos (number_in 10 (b ∷ digits)))
    (if_then Has64 IsWhole below_zero (number_in 10 digits) (λ n h. minus_fits n) (number_in_below 10 digits))
    (if_mapped Has64 IsWhole pos (number_in 10 (b ∷ digits)) (λ n h. h) (number_in_below 10 (b ∷ digits)))

hex_fits : (s : List ℕ) → IfSome (hex_of s) Has64
unfolding hex_of
hex_fits [] = tt
hex_fits (b ∷ []) = number_in_below 16 (b ∷ [])
hex_fits (b ∷ c ∷ digits) =
    if_either Has64 (b == byte "0" && c == byte "x") (number_in 16 digits) (number_in 16 (b ∷ c ∷ digits)) (number_in_below 16 digits) (number_in_below 16 (b ∷ c ∷ digits))

float_fits : (s : List ℕ) → IfSome (float_of s) Has64
unfolding float_of
float_fits s =
    if_then (λ x. T (fits binary64 x)) Has64 finite_bits (parse_float binary64 s) (λ x h. if_tested Has64 (float_is_finite x) (to_bits binary64 x) None (λ is. bits_below x h) tt) (parsed_fits s)

float_in_fits : (floats : Floats) (s : List ℕ) → IfSome (float_in floats s) Has64
float_in_fits Tagged s = tt
float_in_fits Numbers s = float_fits s

or_text : {A : Type 0} (P : A → Type 0) (f : A → Val) (o : Option A) (s : List ℕ) → ((x : A) → P x → IsInRange (f x)) → IfSome o P → IsInRange (unwrap_or (option_map f o) (text s))
or_text P f None s keeps h = tt
or_text P f (Some x) s keeps h = keeps x h

typed_ranged : (floats : Floats) (k : TypeKind) (s : List ℕ) → IsInRange (typed floats k s)
unfolding typed read_as
typed_ranged floats kind.Integer s = or_text IsWhole whole (integer_of s) s (λ n h. h) (integer_fits s)
typed_ranged floats kind.Hex s = or_text Has64 (λ n. whole (pos n)) (hex_of s) s (λ n h. h) (hex_fits s)
typed_ranged floats kind.Bool s = or_text Any truth (truth_of s) s (λ b h. tt) (any_of (truth_of s))
typed_ranged floats kind.Float s = or_text Has64 float64 (float_in floats s) s (λ n h. h) (float_in_fits floats s)
typed_ranged floats kind.Text s = tt

fields_ranged : (floats : Floats) (types : List FieldType) (groups : List Captured) → IsRanged (map (field_of floats types) groups)
fields_ranged floats types [] = tt
fields_ranged floats types (g ∷ groups) = (tt, typed_ranged floats (kind_of types g.name) g.bytes, fields_ranged floats types groups)

matched_ranged : {M : Type 0} (floats : Floats) (types : List FieldType) (skip_empty : Bool) (captures : M → List Captured) (o : Option M) (line : List ℕ)
    → IsRanged (option_map_or (λ m. fields_of floats types skip_empty (captures m)) o (plain line))
matched_ranged floats types skip_empty captures None line = (tt, tt, tt)
matched_ranged floats types skip_empty captures (Some m) line = fields_ranged floats types (filter (is_kept_group skip_empty) (captures m))

body_ranged : (floats : Floats) (shape : Shape) (line : List ℕ) → IsRanged (body_of floats shape line)
unfolding body_of
body_ranged floats Plain line = (tt, tt, tt)
body_ranged floats Json line = or_plain (pairs_in floats line) line (json_ranged floats line)
body_ranged floats (Groups pattern types skip_empty) line = matched_ranged floats types skip_empty (captures_of (group_names pattern) line) (find (expression_of pattern) line 0) line

-- ---- the event

removed_ranged : (o : Option ℕ) (body : Record) → IsRanged body → IsRanged (option_map_or (remove body) o body)
removed_ranged None body r = r
removed_ranged (Some i) body r = ranged-remove body i r

without_ranged : (k : List ℕ) (body : Record) → IsRanged body → IsRanged (without k body)
unfolding without
without_ranged k body r = removed_ranged (position (has_key k) body) body r

at_ranged : (moment : Moment) (body : Record) → MomentFits moment → IsRanged body → NumbersFit (at moment body)
at_ranged moment body m r = record { sec = m.0; nsec = m.1; meta = tt; body = r }

kept_ranged : (b : Bool) (k : List ℕ) (moment : Moment) (body : Record) → MomentFits moment → IsRanged body → NumbersFit (at moment (if b then body else without k body))
kept_ranged true k moment body m r = at_ranged moment body m r
kept_ranged false k moment body m r = at_ranged moment (without k body) m (without_ranged k body r)

timed_by : (o : Option Moment) (rule : TimeRule) (clock : ℕ) (body : Record) → IfSome o MomentFits → IsRanged body
    → NumbersFit (option_map_or (λ moment. at moment (if rule.keep then body else without rule.key body)) o (at (clock_moment clock) body))
timed_by None rule clock body m r = at_ranged (clock_moment clock) body (clock_fits clock) r
timed_by (Some moment) rule clock body m r = kept_ranged rule.keep rule.key moment body m r

timed_ranged : (rule : Option TimeRule) (clock : ℕ) (body : Record) → IsRanged body → NumbersFit (timed_event rule clock body)
unfolding timed_event
timed_ranged None clock body r = at_ranged (clock_moment clock) body (clock_fits clock) r
timed_ranged (Some rule) clock body r = timed_by (field_moment rule body) rule clock body (field_fits rule body) r

pub parsed_ranged : (parser : Parser) (line : List ℕ) (clock : ℕ) → NumbersFit (parsed parser line clock)
unfolding parsed
parsed_ranged parser line clock = timed_ranged parser.time clock (body_of parser.floats parser.shape line) (body_ranged parser.floats parser.shape line)
