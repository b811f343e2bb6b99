-- The values that have an encoding: their numbers are in range, and each length has a form.
use Rattle.std.proofs.Common.{◌<◌, ◌^◌, ℤ, pos, negsuc, length, FitsSigned, arith}
use Rattle.std.specs.Int.{w8}
use Rattle.fwd_value.specs.Val.{Val, nil, truth, whole, text, bin, float32, float64, ext, list, mapping, Vals, no_vals, val, Entries, no_entries, entry}
use Rattle.fwd_value.specs.Limits.{value_count, entry_count, IsInRange, AreInRange, EntriesAreInRange, LengthsFit, AllLengthsFit, EntryLengthsFit, IsExtType}

abbrev mutual
  pub Fits : Val → Type 0
  Fits nil = Unit {0}
  Fits (truth t) = Unit {0}
  Fits (whole (pos n)) = n < 2 ^ 64
  Fits (whole (negsuc n)) = n < 2 ^ 63
  Fits (text s) = length s < 2 ^ 32
  Fits (bin s) = length s < 2 ^ 32
  Fits (float32 n) = n < 2 ^ 32
  Fits (float64 n) = n < 2 ^ 64
  Fits (ext t s) = FitsSigned w8 t × (length s < 2 ^ 32)
  Fits (list vs) = (value_count vs < 2 ^ 32) × AllFit vs
  Fits (mapping es) = (entry_count es < 2 ^ 32) × EntriesFit es

  pub AllFit : Vals → Type 0
  AllFit no_vals = Unit {0}
  AllFit (val v vs) = Fits v × AllFit vs

  pub EntriesFit : Entries → Type 0
  EntriesFit no_entries = Unit {0}
  EntriesFit (entry k v es) = Fits k × Fits v × EntriesFit es

ext_type_fits : (t : ℤ) → IsExtType t → FitsSigned w8 t
ext_type_fits (pos n) h = omega arith
ext_type_fits (negsuc n) h = omega arith

fits_ext_type : (t : ℤ) → FitsSigned w8 t → IsExtType t
fits_ext_type (pos n) h = omega arith
fits_ext_type (negsuc n) h = omega arith

mutual
  pub fits : (v : Val) → IsInRange v → LengthsFit v → Fits v
  fits nil r l = tt
  fits (truth t) r l = tt
  fits (whole (pos n)) r l = r
  fits (whole (negsuc n)) r l = r
  fits (text s) r l = l
  fits (bin s) r l = l
  fits (float32 n) r l = r
  fits (float64 n) r l = r
  fits (ext t s) r l = (ext_type_fits t r, l)
  fits (list vs) r l = (l.0, all_fit vs r l.1)
  fits (mapping es) r l = (l.0, entries_fit es r l.1)

  all_fit : (vs : Vals) → AreInRange vs → AllLengthsFit vs → AllFit vs
  all_fit no_vals r l = tt
  all_fit (val v vs) r l = (fits v r.0 l.0, all_fit vs r.1 l.1)

  entries_fit : (es : Entries) → EntriesAreInRange es → EntryLengthsFit es → EntriesFit es
  entries_fit no_entries r l = tt
  entries_fit (entry k v es) r l = (fits k r.0 l.0, fits v r.1 l.1, entries_fit es r.2 l.2)

mutual
  pub fits_range : (v : Val) → Fits v → IsInRange v
  fits_range nil f = tt
  fits_range (truth t) f = tt
  fits_range (whole (pos n)) f = f
  fits_range (whole (negsuc n)) f = f
  fits_range (text s) f = tt
  fits_range (bin s) f = tt
  fits_range (float32 n) f = f
  fits_range (float64 n) f = f
  fits_range (ext t s) f = fits_ext_type t f.0
  fits_range (list vs) f = all_range vs f.1
  fits_range (mapping es) f = entries_range es f.1

  all_range : (vs : Vals) → AllFit vs → AreInRange vs
  all_range no_vals f = tt
  all_range (val v vs) f = (fits_range v f.0, all_range vs f.1)

  entries_range : (es : Entries) → EntriesFit es → EntriesAreInRange es
  entries_range no_entries f = tt
  entries_range (entry k v es) f = (fits_range k f.0, fits_range v f.1, entries_range es f.2)

mutual
  pub fits_lengths : (v : Val) → Fits v → LengthsFit v
  fits_lengths nil f = tt
  fits_lengths (truth t) f = tt
  fits_lengths (whole n) f = tt
  fits_lengths (text s) f = f
  fits_lengths (bin s) f = f
  fits_lengths (float32 n) f = tt
  fits_lengths (float64 n) f = tt
  fits_lengths (ext t s) f = f.1
  fits_lengths (list vs) f = (f.0, all_lengths vs f.1)
  fits_lengths (mapping es) f = (f.0, entry_lengths es f.1)

  all_lengths : (vs : Vals) → AllFit vs → AllLengthsFit vs
  all_lengths no_vals f = tt
  all_lengths (val v vs) f = (fits_lengths v f.0, all_lengths vs f.1)

  entry_lengths : (es : Entries) → EntriesFit es → EntryLengthsFit es
  entry_lengths no_entries f = tt
  entry_lengths (entry k v es) f = (fits_lengths k f.0, fits_lengths v f.1, entry_lengths es f.2)
