-- The typed fields that a pattern's named groups become.
use Rattle.std.specs.Prelude.{ℕ, ℤ, pos, neg_ℤ, ◌^◌, ◌==◌, ◌&&◌, not, nat_le, Bool, true, false, List, [], ◌∷◌, length, map, filter, fold, Option, Some, None, option_map, option_and_then, unwrap_or, codes, if◌then◌else◌, to_bits}
use Rattle.std.specs.Float.{Float, binary64, float_is_finite}
use Rattle.std.specs.Str.{byte, bytes_eq}
use Rattle.fast_float.specs.Parse.{parse_float}
use Rattle.fwd_base.specs.Pattern.{Captured}
use Rattle.fwd_value.specs.Val.{Val, truth, whole, text, float64}
use Rattle.fwd_value.specs.Keys.{Record}
use Rattle.fwd_json.specs.declared.floats.Floats.{Floats}
use Rattle.fwd_json.specs.declared.floats.Floats.TheVariants.{Tagged, Numbers}
use Rattle.fwd_parser.specs.Number.{number_in}
use Rattle.fwd_parser.specs.declared.parser.FieldType.{FieldType}
use Rattle.fwd_parser.specs.declared.parser.TypeKind.{TypeKind}
use Rattle.fwd_parser.specs.declared.parser.TypeKind.TheVariants as kind

-- a number of at least -2^63
abbrev pub below_zero : ℕ → Option ℤ
below_zero n = if nat_le n (2 ^ 63) then Some (neg_ℤ (pos n)) else None

-- an optional minus and decimal digits: a number from -2^63 to 2^64 - 1
unfoldable pub integer_of : List ℕ → Option ℤ
integer_of [] = None
integer_of (b ∷ digits) =
    if b == byte "-" then option_and_then below_zero (number_in 10 digits)
    else option_map pos (number_in 10 (b ∷ digits))

-- an optional 0x and hexadecimal digits: a number of at most 64 bits
unfoldable pub hex_of : List ℕ → Option ℕ
hex_of [] = None
hex_of (b ∷ []) = number_in 16 (b ∷ [])
hex_of (b ∷ c ∷ digits) =
    if b == byte "0" && c == byte "x" then number_in 16 digits else number_in 16 (b ∷ c ∷ digits)

-- true or false
unfoldable pub truth_of : List ℕ → Option Bool
truth_of s =
    if bytes_eq s (codes "true") then Some true else (if bytes_eq s (codes "false") then Some false else None)

abbrev pub finite_bits : Float → Option ℕ
finite_bits x = if float_is_finite x then Some (to_bits binary64 x) else None

-- The bits of the float of 64 bits nearest to a decimal numeral. Which text is one, and which float it is, is
-- left to `parse_float`, except that a float must be finite.
unfoldable pub float_of : List ℕ → Option ℕ
float_of s = option_and_then finite_bits (parse_float binary64 s)

-- a float, if floats are read
abbrev pub float_in : Floats → List ℕ → Option ℕ
float_in Tagged s = None
float_in Numbers s = float_of s

-- the bytes of a field, parsed as a type
unfoldable pub read_as : Floats → TypeKind → List ℕ → Option Val
read_as floats kind.Integer s = option_map whole (integer_of s)
read_as floats kind.Hex s = option_map (λ n. whole (pos n)) (hex_of s)
read_as floats kind.Bool s = option_map truth (truth_of s)
read_as floats kind.Float s = option_map float64 (float_in floats s)
read_as floats kind.Text s = None

-- the value of a field; bytes that don't have the form of the type are text
unfoldable pub typed : Floats → TypeKind → List ℕ → Val
typed floats kind s = unwrap_or (read_as floats kind s) (text s)

-- the type of a key: if a key is given twice, the last type counts, and a key that isn't given has text
unfoldable pub kind_of : List FieldType → List ℕ → TypeKind
kind_of types key = fold (λ former t. if bytes_eq t.key key then t.kind else former) kind.Text types

-- the field of a named group
abbrev pub field_of : Floats → List FieldType → Captured → Val × Val
field_of floats types g = (text g.name, typed floats (kind_of types g.name) g.bytes)

-- whether a group becomes a field: not if it is empty and empty ones are skipped
abbrev pub is_kept_group : Bool → Captured → Bool
is_kept_group skip_empty g = not (skip_empty && length g.bytes == 0)

-- the fields of the groups that took part, in order
abbrev pub fields_of : Floats → List FieldType → Bool → List Captured → Record
fields_of floats types skip_empty groups =
    map (field_of floats types) (filter (is_kept_group skip_empty) groups)
