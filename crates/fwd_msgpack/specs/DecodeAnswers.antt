-- The answers of `decode`. Values are nested at most `deepest` deep.
use Rattle.std.specs.Prelude.{◌≡◌, ℕ, ◌+◌, ◌≤◌, ◌<◌, List, ◌∷◌, ◌++◌, length, take, slice_index_or, Result, Ok, Err}
use Rattle.fwd_base.specs.Limits.{deepest}
use Rattle.fwd_value.specs.Val.{Val}
use Rattle.fwd_value.specs.View.{val_of}
use Rattle.fwd_value.specs.declared.Value.{Value}
use Rattle.fwd_msgpack.specs.declared.errors.DecodeErr.{DecodeErr}
use Rattle.fwd_msgpack.specs.declared.errors.DecodeErr.TheVariants.{Short, Unused, TooDeep, Memory}
use Rattle.fwd_msgpack.specs.declared.fault.FormatErr.TheVariants as fault
use Rattle.fwd_msgpack.specs.declared.form.Form.{Form}
use Rattle.fwd_msgpack.specs.declared.form.Form.TheVariants as form
use Rattle.fwd_msgpack.specs.Table.{form_of}
use Rattle.fwd_msgpack.specs.Encodings.{AllBytes, Encodes}
use Rattle.fwd_value.specs.Limits.{nesting}
use Rattle.fwd_msgpack.specs.Decoder.{value_at}

abbrev pub Decoded : Type 0
Decoded = Result (Value × ℕ) DecodeErr

-- the first n bytes encode v
abbrev pub EncodesPrefix : Val → ℕ → List ℕ → Type 0
EncodesPrefix v n b = (n ≤ length b) × Encodes v (take n b) × (nesting v ≤ deepest)

-- the bytes are a prefix of an encoding
abbrev pub IsPrefix : List ℕ → Type 0
IsPrefix b = (v : Val) × (more : List ℕ) × AllBytes more × Encodes v (b ++ more) × (nesting v ≤ deepest)

-- the bytes are a proper prefix of an encoding
abbrev pub IsProperPrefix : List ℕ → Type 0
IsProperPrefix b =
    (v : Val) × (c : ℕ) × (more : List ℕ) × AllBytes (c ∷ more) × Encodes v (b ++ c ∷ more)
    × (nesting v ≤ deepest)

-- no prefix of the bytes is an encoding
abbrev pub BeginsNoValue : List ℕ → Type 0
BeginsNoValue b = (v : Val) (n : ℕ) → EncodesPrefix v n b → ⊥

-- n is the length of the longest prefix of the bytes that is a prefix of an encoding
pub record IsErrorOffset (b : List ℕ) (n : ℕ) : Type 0 where
  pub within : n ≤ length b
  pub starts : IsPrefix (take n b)
  pub longest : (m : ℕ) → n < m → m ≤ length b → IsPrefix (take m b) → ⊥

-- the byte c1
abbrev pub IsUnused : Form → Type 0
IsUnused form.Unused = Unit {0}
IsUnused _ = ⊥

-- the first byte of a list or map
abbrev pub IsListOrMap : Form → Type 0
IsListOrMap (form.Array k) = Unit {0}
IsListOrMap (form.Map k) = Unit {0}
IsListOrMap _ = ⊥

-- no prefix is an encoding, and the byte at n, of a form in P, is the first with which no encoding continues
abbrev pub FailsAtForm : (Form → Type 0) → ℕ → List ℕ → Type 0
FailsAtForm P n b = BeginsNoValue b × IsErrorOffset b n × (n < length b) × P (form_of (slice_index_or b n 0))

-- the answer is this value and this length
abbrev pub ReturnsValue : Decoded → Val → ℕ → Type 0
ReturnsValue (Ok x) v n = (val_of x.0 ≡ v) × (x.1 ≡ n)
ReturnsValue (Err e) v n = ⊥

abbrev pub IsMemory : Decoded → Type 0
IsMemory (Ok x) = ⊥
IsMemory (Err Memory) = Unit {0}
IsMemory (Err _) = ⊥

abbrev pub IsShort : Decoded → Type 0
IsShort (Ok x) = ⊥
IsShort (Err Short) = Unit {0}
IsShort (Err _) = ⊥

abbrev pub IsUnusedAt : Decoded → ℕ → Type 0
IsUnusedAt (Ok x) n = ⊥
IsUnusedAt (Err (Unused at)) n = at ≡ n
IsUnusedAt (Err _) n = ⊥

abbrev pub IsTooDeepAt : Decoded → ℕ → Type 0
IsTooDeepAt (Ok x) n = ⊥
IsTooDeepAt (Err (TooDeep at)) n = at ≡ n
IsTooDeepAt (Err _) n = ⊥

-- the answer is that of the recursive decoder
abbrev pub Decodes : List ℕ → Decoded → Type 0
Decodes b (Ok x) =
    (rest : List ℕ) × (value_at deepest b ≡ Ok (val_of x.0, rest)) × (x.1 + length rest ≡ length b)
Decodes b (Err Short) = value_at deepest b ≡ Err fault.Short
Decodes b (Err (Unused at)) =
    (left : ℕ) × (value_at deepest b ≡ Err (fault.Unused left)) × (at + left ≡ length b)
Decodes b (Err (TooDeep at)) =
    (left : ℕ) × (value_at deepest b ≡ Err (fault.TooDeep left)) × (at + left ≡ length b)
Decodes b (Err Memory) = Unit {0}
