-- The encodings of a value (MessagePack specification, "Formats"). A value may have several.
use Rattle.std.specs.Prelude.{◌≡◌, ℕ, ◌<◌, ◌^◌, ◌≤◌, ℤ, pos, List, [], ◌∷◌, ◌++◌, length}
use Rattle.std.specs.Int.{Width, w8, w16, w32, w64, byte_len, from_be_bytes, cast_signed}
use Rattle.fwd_value.specs.Val.{Val, nil, truth, whole, text, bin, float32, float64, ext, list, mapping, Vals, no_vals, val, Entries, no_entries, entry}
use Rattle.fwd_msgpack.specs.declared.form.ByteWidth.{ByteWidth}
use Rattle.fwd_msgpack.specs.declared.form.ByteWidth.TheVariants.{One, Two, Four, Eight}
use Rattle.fwd_msgpack.specs.declared.form.Count.{Count}
use Rattle.fwd_msgpack.specs.declared.form.Count.TheVariants.{Known, Sized}
use Rattle.fwd_msgpack.specs.declared.form.Form.{Form}
use Rattle.fwd_msgpack.specs.declared.form.Form.TheVariants as form
use Rattle.fwd_value.specs.Limits.{value_count, entry_count, nesting}
use Rattle.fwd_msgpack.specs.Table.{form_of}

-- the width of a number
abbrev pub width : ByteWidth → Width
width One = w8
width Two = w16
width Four = w32
width Eight = w64

-- the number fits the width
abbrev pub IsWithin : ByteWidth → ℕ → Type 0
IsWithin One n = n < 2 ^ 8
IsWithin Two n = n < 2 ^ 16
IsWithin Four n = n < 2 ^ 32
IsWithin Eight n = n < 2 ^ 64

-- the number of bytes in big-endian order
unfoldable pub number : ByteWidth → List ℕ → ℕ
number w bytes = from_be_bytes (width w) bytes

-- the width in bytes
unfoldable pub size : ByteWidth → ℕ
size w = byte_len (width w)

-- the bytes encode the length n
abbrev pub Counts : Count → ℕ → List ℕ → Type 0
Counts (Known k) n bytes = (n ≡ k) × (bytes ≡ [])
Counts (Sized w) n bytes = (length bytes ≡ size w) × (n ≡ number w bytes)

-- a length, and as many bytes
abbrev pub Counted : Count → List ℕ → List ℕ → Type 0
Counted k s b = (len : List ℕ) × Counts k (length s) len × (b ≡ len ++ s)

-- a length, the byte of the type, and as many bytes
abbrev pub CountedExt : Count → ℤ → List ℕ → List ℕ → Type 0
CountedExt k t s b =
    (len : List ℕ) × (c : ℕ) × Counts k (length s) len × (t ≡ cast_signed w8 c) × (b ≡ len ++ c ∷ s)

-- the first byte has a form, and P holds of it and the rest
abbrev pub HasForm : (Form → List ℕ → Type 0) → List ℕ → Type 0
HasForm P [] = ⊥
HasForm P (c ∷ b) = P (form_of c) b

abbrev mutual
  -- the bytes after a first byte of this form
  pub EncodesAfter : Val → Form → List ℕ → Type 0
  -- "nil format"
  EncodesAfter nil form.Nil b = b ≡ []
  -- "bool format family"
  EncodesAfter (truth t) (form.Bool u) b = (t ≡ u) × (b ≡ [])
  -- "int format family"; signed numbers are in two's complement
  EncodesAfter (whole n) (form.PositiveFixint k) b = (n ≡ pos k) × (b ≡ [])
  EncodesAfter (whole n) (form.NegativeFixint z) b = (n ≡ z) × (b ≡ [])
  EncodesAfter (whole n) (form.Uint w) b = (length b ≡ size w) × (n ≡ pos (number w b))
  EncodesAfter (whole n) (form.Int w) b = (length b ≡ size w) × (n ≡ cast_signed (width w) (number w b))
  -- "float format family"
  EncodesAfter (float32 n) form.Float32 b = (length b ≡ size Four) × (n ≡ number Four b)
  EncodesAfter (float64 n) form.Float64 b = (length b ≡ size Eight) × (n ≡ number Eight b)
  -- "str format family"
  EncodesAfter (text s) (form.Str k) b = Counted k s b
  -- "bin format family"
  EncodesAfter (bin s) (form.Bin k) b = Counted k s b
  -- "ext format family"
  EncodesAfter (ext t s) (form.Ext k) b = CountedExt k t s b
  -- "array format family"
  EncodesAfter (list vs) (form.Array k) b =
      (len rest : List ℕ) × Counts k (value_count vs) len × (b ≡ len ++ rest) × EncodesAll vs rest
  -- "map format family"
  EncodesAfter (mapping es) (form.Map k) b =
      (len rest : List ℕ) × Counts k (entry_count es) len × (b ≡ len ++ rest) × EncodesEntries es rest
  EncodesAfter _ _ b = ⊥

  -- encodings of the values, one after another
  pub EncodesAll : Vals → List ℕ → Type 0
  EncodesAll no_vals b = b ≡ []
  EncodesAll (val v vs) b =
      (front back : List ℕ) × (b ≡ front ++ back) × HasForm (EncodesAfter v) front × EncodesAll vs back

  -- encodings of the keys and values, one after another
  pub EncodesEntries : Entries → List ℕ → Type 0
  EncodesEntries no_entries b = b ≡ []
  EncodesEntries (entry k v es) b =
      (first second back : List ℕ) × (b ≡ first ++ (second ++ back)) × HasForm (EncodesAfter k) first
      × HasForm (EncodesAfter v) second × EncodesEntries es back

-- the bytes encode the value
abbrev pub Encodes : Val → List ℕ → Type 0
Encodes v b = HasForm (EncodesAfter v) b

-- the bytes encode the value, and it is nested at most d deep
abbrev pub EncodesNested : ℕ → Val → List ℕ → Type 0
EncodesNested d v b = Encodes v b × (nesting v ≤ d)

-- each is a byte
abbrev pub AllBytes : List ℕ → Type 0
AllBytes [] = Unit {0}
AllBytes (x ∷ xs) = (x < 256) × AllBytes xs
