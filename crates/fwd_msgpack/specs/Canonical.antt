-- The canonical encoding: the shortest, with unsigned forms for numbers from 0 on.
use Rattle.std.specs.Prelude.{ℕ, ◌+◌, ◌-◌, ◌==◌, ℤ, pos, negsuc, true, false, List, [], ◌∷◌, ◌++◌, length, nat_lt, if◌then◌else◌}
use Rattle.std.specs.Int.{w8, w16, w32, w64, to_be_bytes, cast_unsigned}
use Rattle.fwd_value.specs.Val.{Val, nil, truth, whole, text, bin, float32, float64, ext, list, mapping, Vals, no_vals, val, Entries, no_entries, entry}
use Rattle.fwd_value.specs.Limits.{value_count, entry_count}

-- the number n
unfoldable pub number_bytes : ℕ → List ℕ
number_bytes n =
    if nat_lt n 128 then n ∷ [] else
    if nat_lt n 256 then 204 ∷ n ∷ [] else
    if nat_lt n 65536 then 205 ∷ to_be_bytes w16 n else
    if nat_lt n 4294967296 then 206 ∷ to_be_bytes w32 n else
    207 ∷ to_be_bytes w64 n

-- the number -1 - n
unfoldable pub minus_bytes : ℕ → List ℕ
minus_bytes n =
    if nat_lt n 32 then (255 - n) ∷ [] else
    if nat_lt n 128 then 208 ∷ (255 - n) ∷ [] else
    if nat_lt n 32768 then 209 ∷ to_be_bytes w16 (65535 - n) else
    if nat_lt n 2147483648 then 210 ∷ to_be_bytes w32 (4294967295 - n) else
    211 ∷ to_be_bytes w64 (18446744073709551615 - n)

-- a whole number
abbrev pub whole_bytes : ℤ → List ℕ
whole_bytes (pos n) = number_bytes n
whole_bytes (negsuc n) = minus_bytes n

-- the header of a text of n bytes
unfoldable pub text_head : ℕ → List ℕ
text_head n =
    if nat_lt n 32 then (160 + n) ∷ [] else
    if nat_lt n 256 then 217 ∷ n ∷ [] else
    if nat_lt n 65536 then 218 ∷ to_be_bytes w16 n else
    219 ∷ to_be_bytes w32 n

-- the header of a bin of n bytes
unfoldable pub bin_head : ℕ → List ℕ
bin_head n =
    if nat_lt n 256 then 196 ∷ n ∷ [] else
    if nat_lt n 65536 then 197 ∷ to_be_bytes w16 n else
    198 ∷ to_be_bytes w32 n

-- the header of an extension of n bytes, without its type
unfoldable pub ext_head : ℕ → List ℕ
ext_head n =
    if n == 1 then 212 ∷ [] else
    if n == 2 then 213 ∷ [] else
    if n == 4 then 214 ∷ [] else
    if n == 8 then 215 ∷ [] else
    if n == 16 then 216 ∷ [] else
    if nat_lt n 256 then 199 ∷ n ∷ [] else
    if nat_lt n 65536 then 200 ∷ to_be_bytes w16 n else
    201 ∷ to_be_bytes w32 n

-- the header of a list of n values
unfoldable pub list_head : ℕ → List ℕ
list_head n =
    if nat_lt n 16 then (144 + n) ∷ [] else
    if nat_lt n 65536 then 220 ∷ to_be_bytes w16 n else
    221 ∷ to_be_bytes w32 n

-- the header of a map of n pairs
unfoldable pub map_head : ℕ → List ℕ
map_head n =
    if nat_lt n 16 then (128 + n) ∷ [] else
    if nat_lt n 65536 then 222 ∷ to_be_bytes w16 n else
    223 ∷ to_be_bytes w32 n

abbrev mutual
  pub canonical : Val → List ℕ
  canonical nil = 192 ∷ []
  canonical (truth false) = 194 ∷ []
  canonical (truth true) = 195 ∷ []
  canonical (whole n) = whole_bytes n
  canonical (text s) = text_head (length s) ++ s
  canonical (bin s) = bin_head (length s) ++ s
  canonical (float32 n) = 202 ∷ to_be_bytes w32 n
  canonical (float64 n) = 203 ∷ to_be_bytes w64 n
  canonical (ext t s) = ext_head (length s) ++ cast_unsigned w8 t ∷ s
  canonical (list vs) = list_head (value_count vs) ++ canonical_all vs
  canonical (mapping es) = map_head (entry_count es) ++ canonical_entries es

  -- the canonical encodings, one after another
  pub canonical_all : Vals → List ℕ
  canonical_all no_vals = []
  canonical_all (val v vs) = canonical v ++ canonical_all vs

  pub canonical_entries : Entries → List ℕ
  canonical_entries no_entries = []
  canonical_entries (entry k v es) = canonical k ++ (canonical v ++ canonical_entries es)
