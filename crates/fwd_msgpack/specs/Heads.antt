-- Encoded values and headers at the start of bytes, and the rest after them.
use Rattle.std.specs.Prelude.{◌≡◌, ℕ, List, ◌++◌, length}
use Rattle.fwd_value.specs.Val.{Val, text, bin, list, mapping, Vals, Entries}
use Rattle.fwd_value.specs.Limits.{value_count, entry_count}
use Rattle.fwd_msgpack.specs.declared.form.Count.{Count}
use Rattle.fwd_msgpack.specs.Encodings.{Counts, Encodes, EncodesAll, EncodesEntries}

-- the bytes are an encoding of the value and then the rest
abbrev pub StartsWith : Val → List ℕ → List ℕ → Type 0
StartsWith v rest b = (front : List ℕ) × (b ≡ front ++ rest) × Encodes v front

-- the bytes are the length n and then the rest
abbrev pub StartsWithLength : Count → ℕ → List ℕ → List ℕ → Type 0
StartsWithLength k n rest b = (len : List ℕ) × (b ≡ len ++ rest) × Counts k n len

-- the bytes are the header of a text of n bytes and then the rest
abbrev pub StartsWithText : ℕ → List ℕ → List ℕ → Type 0
StartsWithText n rest b =
    (head : List ℕ) × (b ≡ head ++ rest) × ((s : List ℕ) → length s ≡ n → Encodes (text s) (head ++ s))

-- the value is a text or a bin of these bytes
abbrev pub HasBytes : List ℕ → Val → Type 0
HasBytes s (text t) = t ≡ s
HasBytes s (bin t) = t ≡ s
HasBytes s _ = ⊥

-- the bytes are an encoded text or bin of these bytes and then the rest
abbrev pub StartsWithBytes : List ℕ → List ℕ → List ℕ → Type 0
StartsWithBytes s rest b = (v : Val) × HasBytes s v × StartsWith v rest b

-- the bytes are the header of a text or bin of n bytes and then the rest
abbrev pub StartsWithBytesHead : ℕ → List ℕ → List ℕ → Type 0
StartsWithBytesHead n rest b =
    (head : List ℕ) × (b ≡ head ++ rest)
    × ((s : List ℕ) → length s ≡ n → (v : Val) × HasBytes s v × Encodes v (head ++ s))

-- the bytes are the header of a list of n values and then the rest
abbrev pub StartsWithList : ℕ → List ℕ → List ℕ → Type 0
StartsWithList n rest b =
    (head : List ℕ) × (b ≡ head ++ rest)
    × ((vs : Vals) (s : List ℕ) → value_count vs ≡ n → EncodesAll vs s → Encodes (list vs) (head ++ s))

-- the bytes are the header of a map of n pairs and then the rest
abbrev pub StartsWithMap : ℕ → List ℕ → List ℕ → Type 0
StartsWithMap n rest b =
    (head : List ℕ) × (b ≡ head ++ rest)
    × ((es : Entries) (s : List ℕ) → entry_count es ≡ n → EncodesEntries es s
    → Encodes (mapping es) (head ++ s))
