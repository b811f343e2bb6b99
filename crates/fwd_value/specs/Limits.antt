-- The nesting of a value, the lengths of its parts, and the range of its numbers.
use Rattle.std.specs.Prelude.{ℕ, suc, ◌<◌, ◌^◌, max, ℤ, pos, negsuc, length}
use Rattle.fwd_value.specs.Val.{Val, nil, truth, whole, text, bin, float32, float64, ext, list, mapping, Vals, no_vals, val, Entries, no_entries, entry}

-- The nesting of a list or map is one more than that of its deepest member; that of an empty one is 1, and
-- that of any other value 0.
abbrev mutual
  pub nesting : Val → ℕ
  nesting nil = 0
  nesting (truth t) = 0
  nesting (whole n) = 0
  nesting (text s) = 0
  nesting (bin s) = 0
  nesting (float32 n) = 0
  nesting (float64 n) = 0
  nesting (ext t s) = 0
  nesting (list vs) = suc (nestings vs)
  nesting (mapping es) = suc (entry_nestings es)

  -- the nesting of the deepest value, or 0 if there is none
  pub nestings : Vals → ℕ
  nestings no_vals = 0
  nestings (val v vs) = max (nesting v) (nestings vs)

  pub entry_nestings : Entries → ℕ
  entry_nestings no_entries = 0
  entry_nestings (entry k v es) = max (nesting k) (max (nesting v) (entry_nestings es))

-- the number of values in a list
abbrev pub value_count : Vals → ℕ
value_count no_vals = 0
value_count (val v vs) = suc (value_count vs)

-- the number of pairs in a map
abbrev pub entry_count : Entries → ℕ
entry_count no_entries = 0
entry_count (entry k v es) = suc (entry_count es)

-- every length in the value is below 2^32
abbrev mutual
  pub LengthsFit : Val → Type 0
  LengthsFit nil = Unit {0}
  LengthsFit (truth t) = Unit {0}
  LengthsFit (whole n) = Unit {0}
  LengthsFit (text s) = length s < 2 ^ 32
  LengthsFit (bin s) = length s < 2 ^ 32
  LengthsFit (float32 n) = Unit {0}
  LengthsFit (float64 n) = Unit {0}
  LengthsFit (ext t s) = length s < 2 ^ 32
  LengthsFit (list vs) = (value_count vs < 2 ^ 32) × AllLengthsFit vs
  LengthsFit (mapping es) = (entry_count es < 2 ^ 32) × EntryLengthsFit es

  pub AllLengthsFit : Vals → Type 0
  AllLengthsFit no_vals = Unit {0}
  AllLengthsFit (val v vs) = LengthsFit v × AllLengthsFit vs

  pub EntryLengthsFit : Entries → Type 0
  EntryLengthsFit no_entries = Unit {0}
  EntryLengthsFit (entry k v es) = LengthsFit k × LengthsFit v × EntryLengthsFit es

-- a whole number from -2^63 to 2^64 - 1
abbrev pub IsWhole : ℤ → Type 0
IsWhole (pos n) = n < 2 ^ 64
IsWhole (negsuc n) = n < 2 ^ 63

-- a number from -128 to 127
abbrev pub IsExtType : ℤ → Type 0
IsExtType (pos n) = n < 2 ^ 7
IsExtType (negsuc n) = n < 2 ^ 7

-- all whole numbers, floats and extension types in the value are in range
abbrev mutual
  pub IsInRange : Val → Type 0
  IsInRange nil = Unit {0}
  IsInRange (truth t) = Unit {0}
  IsInRange (whole n) = IsWhole n
  IsInRange (text s) = Unit {0}
  IsInRange (bin s) = Unit {0}
  IsInRange (float32 n) = n < 2 ^ 32
  IsInRange (float64 n) = n < 2 ^ 64
  IsInRange (ext t s) = IsExtType t
  IsInRange (list vs) = AreInRange vs
  IsInRange (mapping es) = EntriesAreInRange es

  pub AreInRange : Vals → Type 0
  AreInRange no_vals = Unit {0}
  AreInRange (val v vs) = IsInRange v × AreInRange vs

  pub EntriesAreInRange : Entries → Type 0
  EntriesAreInRange no_entries = Unit {0}
  EntriesAreInRange (entry k v es) = IsInRange k × IsInRange v × EntriesAreInRange es
