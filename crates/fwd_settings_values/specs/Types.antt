-- The types of a parser's fields.
use Rattle.std.specs.Prelude.{ℕ, Bool, ◌==◌, nat_lt, if◌then◌else◌, List, [], ◌∷◌, length, codes, Option, Some, None}
use Rattle.std.specs.List.{before_first, after_first}
use Rattle.std.specs.Str.{bytes_eq, byte}
use Rattle.fwd_parser.specs.declared.parser.FieldType.{FieldType}
use Rattle.fwd_parser.specs.declared.parser.TypeKind.{TypeKind}
use Rattle.fwd_parser.specs.declared.parser.TypeKind.TheVariants as kind
use Rattle.fwd_settings_values.specs.Text.{parts_of}

-- an unknown type is text
abbrev pub type_of : List ℕ → TypeKind
type_of name =
    if bytes_eq name (codes "integer") then kind.Integer
    else (if bytes_eq name (codes "hex") then kind.Hex
    else (if bytes_eq name (codes "bool") then kind.Bool
    else (if bytes_eq name (codes "float") then kind.Float
    else kind.Text)))

abbrev pub is_colon : ℕ → Bool
is_colon b = b == byte ":"

-- `key:type`, split at the first colon
abbrev pub field_type_of : List ℕ → Option FieldType
field_type_of word =
    if nat_lt (length (before_first is_colon word)) (length word)
    then Some (record { key = before_first is_colon word; kind = type_of (after_first is_colon word) })
    else None

abbrev pub in_front : {X : Type 0} → Option X → Option (List X) → Option (List X)
in_front None more = None
in_front (Some x) None = None
in_front (Some x) (Some xs) = Some (x ∷ xs)

-- each word in order; empty words between two blanks are skipped
abbrev pub types_of_words : List (List ℕ) → Option (List FieldType)
types_of_words [] = Some []
types_of_words ([] ∷ words) = types_of_words words
types_of_words ((b ∷ bytes) ∷ words) = in_front (field_type_of (b ∷ bytes)) (types_of_words words)

-- words `key:type` separated by blanks
abbrev pub types_of : List ℕ → Option (List FieldType)
types_of text = types_of_words (parts_of (32 ∷ 9 ∷ []) text)
