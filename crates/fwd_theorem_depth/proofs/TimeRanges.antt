-- The time of a line has 32 bits of seconds and of nanoseconds.
use Rattle.std.proofs.Common.{ℕ, ◌<◌, ◌≤◌, ◌%◌, ◌^◌, min, pos, negsuc, ℤ, Bool, true, false, List, [], ◌∷◌, length, take, drop, Option, Some, None, IfSome, option_map, option_and_then, unwrap_or, arith}
use Rattle.std.specs.Prelude.{if◌then◌else◌, nat_lt, ◌==◌, codes}
use Rattle.std.specs.Str.{byte}
use Rattle.std.proofs.lemmas.Bool.{ltb-true}
use Rattle.std.proofs.lemmas.Nat.{div_below, mod_below}
use Rattle.fwd_base.specs.Blanks.{skip_blanks}
use Rattle.fwd_base.specs.Limits.{latest_time}
use Rattle.fwd_value.specs.Val.{Val, text}
use Rattle.fwd_value.specs.Keys.{Record, key}
use Rattle.fwd_parser.specs.Number.{value_in, digits_at, number_of}
use Rattle.fwd_parser.specs.Time.{Read, after_byte, after_format_byte, month_of, fraction_of, offset_of, set_field, of_clock, single, read_format, directive, seconds_of, no_fields, moment_of, time_of}
use Rattle.fwd_parser.specs.LineEvent.{Moment, clock_moment, as_moment, moment_in, moment_of_value, field_moment}
use Rattle.fwd_parser.specs.declared.directives.Fields.{Fields}
use Rattle.fwd_parser.specs.declared.parser.TimeRule.{TimeRule}
use Rattle.fwd_parser.proofs.Numbers.{digits_most, number_below, in_billionths}
use Rattle.fwd_theorem_depth.proofs.Options.{if_mapped, if_then, if_either, if_tested, Any, any_of}

abbrev pub MomentFits : Moment → Type 0
MomentFits moment = (moment.0 < 2 ^ 32) × (moment.1 < 2 ^ 32)

-- ---- a clock reading

pub clock_fits : (clock : ℕ) → MomentFits (clock_moment clock)
unfolding clock_moment
clock_fits clock =
    let most : min clock latest_time ≤ 4294967295999 = omega arith in
    let rest : min clock latest_time % 1000 < 1000 = mod_below (min clock latest_time) 1000 (omega arith) in
    (div_below (min clock latest_time) 1000 4294967296 (omega arith) (omega (arith, most)), omega (arith, rest))

-- ---- the fields that are read

-- the nanoseconds that were read
abbrev NanosFit : Fields → Type 0
NanosFit f = unwrap_or f.nanos 0 < 2 ^ 32

abbrev FieldsFit : Fields × List ℕ → Type 0
FieldsFit p = NanosFit p.0

abbrev ReadFits : Read → Type 0
ReadFits r = IfSome r FieldsFit

-- up to nine digits, and the rest of a text
abbrev HasNine : List ℕ → ℕ × List ℕ → Type 0
HasNine input p = p.0 < 10 ^ digits_at 9 input

abbrev IsBillionths : ℕ × List ℕ → Type 0
IsBillionths p = p.0 < 2 ^ 32

unless_short : (b : Bool) (input : List ℕ) → IfSome (if b then None else Some (value_in 10 (take (digits_at 9 input) input), drop (digits_at 9 input) input)) (HasNine input)
unless_short true input = tt
unless_short false input = number_below 9 input

nine_fit : (input : List ℕ) → IfSome (number_of 1 9 input) (HasNine input)
unfolding number_of
nine_fit input = unless_short (nat_lt (digits_at 9 input) 1) input

fraction_fits : (input : List ℕ) → IfSome (fraction_of input) IsBillionths
unfolding fraction_of
fraction_fits input =
    if_mapped (HasNine input) IsBillionths _ (number_of 1 9 input) (λ p h. let small = in_billionths (digits_at 9 input) p.0 (digits_most 9 input) h in omega (arith, small)) (nine_fit input)

-- a field other than the nanoseconds
other : {A : Type 0} (field : A → Fields) (o : Option (A × List ℕ)) → ((x : A) → NanosFit (field x)) → ReadFits (set_field field o)
other {A = A} field o keeps = if_mapped Any FieldsFit (λ (p : A × List ℕ). (field p.0, p.1)) o (λ p is. keeps p.0) (any_of o)

-- the fields are unchanged
same : (f : Fields) (o : Option (List ℕ)) → NanosFit f → ReadFits (option_map (λ left. (f, left)) o)
same f o h = if_mapped Any FieldsFit (λ left. (f, left)) o (λ left is. h) (any_of o)

either : (b : Bool) (x y : Read) → ReadFits x → ReadFits y → ReadFits (if b then x else y)
either b x y one two = if_either FieldsFit b x y one two

of_clock_fits : (letter : ℕ) (input : List ℕ) (f : Fields) → NanosFit f → ReadFits (of_clock letter input f)
unfolding of_clock
of_clock_fits letter input f h =
    either (letter == byte "H") _ _ (other (λ n. record f { hour = Some n }) (number_of 1 2 input) (λ n. h)) (
    either (letter == byte "M") _ _ (other (λ n. record f { minute = Some n }) (number_of 1 2 input) (λ n. h)) (
    either (letter == byte "S") _ _ (other (λ n. record f { second = Some n }) (number_of 1 2 input) (λ n. h)) (
    either (letter == byte "L") _ _ (if_mapped IsBillionths FieldsFit (λ (p : ℕ × List ℕ). (record f { nanos = Some p.0 }, p.1)) (fraction_of input) (λ p small. small) (fraction_fits input)) (
    either (letter == byte "z") _ _ (other (λ z. record f { offset = Some z }) (offset_of input) (λ z. h)) (
    either (letter == byte "s") _ _ (other (λ n. record f { stamp = Some (pos n) }) (number_of 1 18 input) (λ n. h)) (
    either (letter == byte "%") _ _ (same f (after_byte (byte "%") input) h) tt))))))

single_fits : (letter : ℕ) (input : List ℕ) (f : Fields) → NanosFit f → ReadFits (single letter input f)
unfolding single
single_fits letter input f h =
    either (letter == byte "Y") _ _ (other (λ n. record f { year = Some n }) (number_of 4 4 input) (λ n. h)) (
    either (letter == byte "m") _ _ (other (λ n. record f { month = Some n }) (number_of 1 2 input) (λ n. h)) (
    either (letter == byte "b") _ _ (other (λ n. record f { month = Some n }) (month_of input) (λ n. h)) (
    either (letter == byte "d") _ _ (other (λ n. record f { day = Some n }) (number_of 1 2 input) (λ n. h)) (
    either (letter == byte "e") _ _ (other (λ n. record f { day = Some n }) (number_of 1 2 (skip_blanks input)) (λ n. h)) (of_clock_fits letter input f h)))))

format_fits : (one : ℕ → List ℕ → Fields → Read) → ((letter : ℕ) (input : List ℕ) (f : Fields) → NanosFit f → ReadFits (one letter input f))
    → (format input : List ℕ) (f : Fields) → NanosFit f → ReadFits (read_format one format input f)
format_fits one keeps [] input f h = h
format_fits one keeps (b ∷ []) input f h = same f (after_format_byte b input) h
format_fits one keeps (b ∷ c ∷ format) input f h =
    either (b == byte "%") (option_and_then (λ p. read_format one format p.1 p.0) (one c input f)) (option_and_then (λ left. read_format one (c ∷ format) left f) (after_format_byte b input))
    (if_then FieldsFit FieldsFit (λ (p : Fields × List ℕ). read_format one format p.1 p.0) (one c input f) (λ p is. format_fits one keeps format p.1 p.0 is) (keeps c input f h))
    (if_then Any FieldsFit (λ left. read_format one (c ∷ format) left f) (after_format_byte b input) (λ left is. format_fits one keeps (c ∷ format) left f h) (any_of (after_format_byte b input)))

directive_fits : (letter : ℕ) (input : List ℕ) (f : Fields) → NanosFit f → ReadFits (directive letter input f)
unfolding directive
directive_fits letter input f h =
    either (letter == byte "F") _ _ (format_fits single single_fits (codes "%Y-%m-%d") input f h) (
    either (letter == byte "T") _ _ (format_fits single single_fits (codes "%H:%M:%S") input f h) (single_fits letter input f h))

-- ---- the moment of a field

abbrev TimeFits : ℤ × ℕ → Type 0
TimeFits time = time.1 < 2 ^ 32

moment_of_fits : (r : Fields × List ℕ) → FieldsFit r → IfSome (moment_of r) TimeFits
unfolding moment_of
moment_of_fits r h =
    if_either TimeFits (length r.1 == 0) (option_map (λ seconds. (seconds, unwrap_or r.0.nanos 0)) (seconds_of r.0)) None
    (if_mapped Any TimeFits (λ seconds. (seconds, unwrap_or r.0.nanos 0)) (seconds_of r.0) (λ seconds is. h) (any_of (seconds_of r.0))) tt

time_fits : (format s : List ℕ) → IfSome (time_of format s) TimeFits
unfolding time_of
time_fits format s =
    if_then FieldsFit TimeFits moment_of (read_format directive format s no_fields) (λ r h. moment_of_fits r h) (format_fits directive directive_fits format s no_fields (omega arith))

seconds_fit : (n : ℕ) → IfSome (if nat_lt n 4294967296 then Some n else None) (λ second. second < 2 ^ 32)
seconds_fit n = if_tested (λ second. second < 2 ^ 32) (nat_lt n 4294967296) n None (λ is. ltb-true n 4294967296 is) tt

moment_fits : (z : ℤ) (nanos : ℕ) → nanos < 2 ^ 32 → IfSome (as_moment (z, nanos)) MomentFits
moment_fits (pos n) nanos h = if_mapped (λ second. second < 2 ^ 32) MomentFits (λ second. (second, nanos)) (if nat_lt n 4294967296 then Some n else None) (λ second small. (small, h)) (seconds_fit n)
moment_fits (negsuc n) nanos h = tt

text_fits : (format s : List ℕ) → IfSome (moment_in format s) MomentFits
unfolding moment_in
text_fits format s = if_then TimeFits MomentFits as_moment (time_of format s) (λ time h. moment_fits time.0 time.1 h) (time_fits format s)

value_fits : (format : List ℕ) (v : Val) → IfSome (moment_of_value format v) MomentFits
value_fits format (text s) = text_fits format s
value_fits format v = tt

pub field_fits : (rule : TimeRule) (body : Record) → IfSome (field_moment rule body) MomentFits
unfolding field_moment
field_fits rule body = if_then Any MomentFits (λ (p : Val × Val). moment_of_value rule.format p.1) (key body rule.key) (λ p is. value_fits rule.format p.1) (any_of (key body rule.key))
