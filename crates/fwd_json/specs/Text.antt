-- The JSON text of a value, without blanks (RFC 8259, with tagged strings for types that JSON lacks).
-- Floats are tagged strings too, unless they are written as numbers.
use Rattle.std.specs.Prelude.{ℕ, ◌==◌, nat_lt, if◌then◌else◌, true, false, List, [], ◌∷◌, ◌++◌, codes}
use Rattle.std.specs.Fmt.{signed_decimal}
use Rattle.std.specs.Float.Ieee.{binary32, binary64}
use Rattle.std.specs.Int.{w32, w64, to_be_bytes}
use Rattle.std.specs.Str.{is_utf8}
use Rattle.hex.specs.Hex.{encode_lower}
use Rattle.fwd_float.specs.FloatText.{float_text}
use Rattle.fwd_value.specs.Val.{Val, nil, truth, whole, text, bin, float32, float64, ext, list, mapping, Vals, no_vals, val, Entries, no_entries, entry}
use Rattle.fwd_json.specs.declared.floats.Floats.{Floats}
use Rattle.fwd_json.specs.declared.floats.Floats.TheVariants.{Tagged, Numbers}

-- a byte within quotes: the quote and the backslash, the five control characters with a letter, and the
-- others by `\u00` and two hex digits
unfoldable pub escaped : ℕ → List ℕ
escaped c =
    if c == 34 then 92 ∷ 34 ∷ [] else
    if c == 92 then 92 ∷ 92 ∷ [] else
    if c == 8 then 92 ∷ 98 ∷ [] else
    if c == 9 then 92 ∷ 116 ∷ [] else
    if c == 10 then 92 ∷ 110 ∷ [] else
    if c == 12 then 92 ∷ 102 ∷ [] else
    if c == 13 then 92 ∷ 114 ∷ [] else
    if nat_lt c 32 then codes "\\u00" ++ encode_lower (c ∷ []) else
    c ∷ []

abbrev pub escapes : List ℕ → List ℕ
escapes [] = []
escapes (c ∷ bytes) = escaped c ++ escapes bytes

-- within quotes
abbrev pub quoted : List ℕ → List ℕ
quoted bytes = 34 ∷ (escapes bytes ++ 34 ∷ [])

-- a tag and two lower-case hex digits for each byte, within quotes
abbrev pub tagged : List ℕ → List ℕ → List ℕ
tagged tag bytes = 34 ∷ (tag ++ (encode_lower bytes ++ 34 ∷ []))

-- text that isn't UTF-8 is written as a byte string
abbrev pub string : List ℕ → List ℕ
string bytes = if is_utf8 bytes then quoted bytes else tagged (codes "bin:") bytes

-- a float of 32 bits, and one of 64
abbrev pub single : Floats → ℕ → List ℕ
single Tagged bits = tagged (codes "f32:") (to_be_bytes w32 bits)
single Numbers bits = float_text binary32 bits

abbrev pub double : Floats → ℕ → List ℕ
double Tagged bits = tagged (codes "f64:") (to_be_bytes w64 bits)
double Numbers bits = float_text binary64 bits

-- a key, given its JSON text: UTF-8 text as it is, and any other key as its JSON text in quotes
abbrev pub key_text : Val → List ℕ → List ℕ
key_text (text bytes) json = if is_utf8 bytes then quoted bytes else quoted json
key_text _ json = quoted json

abbrev mutual
  pub json : Floats → Val → List ℕ
  json floats nil = codes "null"
  json floats (truth false) = codes "false"
  json floats (truth true) = codes "true"
  json floats (whole n) = signed_decimal n
  json floats (text bytes) = string bytes
  json floats (bin bytes) = tagged (codes "bin:") bytes
  json floats (float32 bits) = single floats bits
  json floats (float64 bits) = double floats bits
  json floats (ext kind bytes) = tagged (codes "ext:" ++ (signed_decimal kind ++ codes ":")) bytes
  json floats (list vs) = 91 ∷ (values_text floats vs ++ 93 ∷ [])
  json floats (mapping es) = 123 ∷ (pairs_text floats es ++ 125 ∷ [])

  -- with commas between
  pub values_text : Floats → Vals → List ℕ
  values_text floats no_vals = []
  values_text floats (val v vs) = json floats v ++ more_values floats vs

  pub more_values : Floats → Vals → List ℕ
  more_values floats no_vals = []
  more_values floats (val v vs) = (44 ∷ json floats v) ++ more_values floats vs

  pub pairs_text : Floats → Entries → List ℕ
  pairs_text floats no_entries = []
  pairs_text floats (entry k v es) =
      (key_text k (json floats k) ++ 58 ∷ json floats v) ++ more_pairs floats es

  pub more_pairs : Floats → Entries → List ℕ
  more_pairs floats no_entries = []
  more_pairs floats (entry k v es) =
      (44 ∷ (key_text k (json floats k) ++ 58 ∷ json floats v)) ++ more_pairs floats es

-- a key, a colon and a value
abbrev pub pair_text : Floats → Val × Val → List ℕ
pair_text floats p = key_text p.0 (json floats p.0) ++ 58 ∷ json floats p.1
