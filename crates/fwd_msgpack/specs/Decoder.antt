-- The recursive decoder as a function, with the first error that it meets.
use Rattle.std.specs.Prelude.{◌≡◌, ℕ, zero, suc, ◌+◌, pos, List, [], ◌∷◌, length, take, drop, Option, Some, None, Result, Ok, Err, nat_lt, if◌then◌else◌}
use Rattle.std.specs.Int.{w8, cast_signed}
use Rattle.fwd_value.specs.Val.{Val, nil, truth, whole, text, bin, float32, float64, ext, list, mapping, vals_of, entries_of}
use Rattle.fwd_msgpack.specs.declared.form.ByteWidth.{ByteWidth}
use Rattle.fwd_msgpack.specs.declared.form.ByteWidth.TheVariants.{Four, Eight}
use Rattle.fwd_msgpack.specs.declared.form.Count.{Count}
use Rattle.fwd_msgpack.specs.declared.form.Count.TheVariants.{Known, Sized}
use Rattle.fwd_msgpack.specs.declared.form.Form.{Form}
use Rattle.fwd_msgpack.specs.declared.form.Form.TheVariants as form
use Rattle.fwd_msgpack.specs.declared.fault.FormatErr.{FormatErr}
use Rattle.fwd_msgpack.specs.declared.fault.FormatErr.TheVariants.{Short, Unused, TooDeep}
use Rattle.fwd_msgpack.specs.declared.fault.ReadErr.{ReadErr}
use Rattle.fwd_msgpack.specs.declared.fault.ReadErr.TheVariants as errors
use Rattle.fwd_msgpack.specs.Table.{form_of}
use Rattle.fwd_msgpack.specs.Encodings.{number, size, width}

infixl 10 ◌>>=◌
abbrev pub ◌>>=◌ : {A B : Type 0} → Result A FormatErr → (A → Result B FormatErr) → Result B FormatErr
(Ok x) >>= f = f x
(Err e) >>= f = Err e

-- the result of a function, mapped by view, is that of the decoder, unless memory was out
abbrev pub FailsAs : {Y : Type 0} → ReadErr → Result Y FormatErr → Type 0
FailsAs errors.Memory read = Unit {0}
FailsAs (errors.Format f) read = read ≡ Err f

abbrev pub DecodesAs : {X Y : Type 0} → (X → Y) → Result X ReadErr → Result Y FormatErr → Type 0
DecodesAs view (Ok x) read = read ≡ Ok (view x)
DecodesAs view (Err e) read = FailsAs e read

-- a value, and the bytes after it
abbrev pub Read : Type 0 → Type 0
Read A = Result (A × List ℕ) FormatErr

unfoldable pub number_at : ByteWidth → List ℕ → Read ℕ
number_at w b =
    if nat_lt (length b) (size w) then Err Short else Ok (number w (take (size w) b), drop (size w) b)

unfoldable pub bytes_at : ℕ → List ℕ → Read (List ℕ)
bytes_at n b = if nat_lt (length b) n then Err Short else Ok (take n b, drop n b)

unfoldable pub byte_at : List ℕ → Read ℕ
byte_at [] = Err Short
byte_at (c ∷ b) = Ok (c, b)

unfoldable pub count_at : Count → List ℕ → Read ℕ
count_at (Known n) b = Ok (n, b)
count_at (Sized w) b = number_at w b

unfoldable pub counted_at : Count → List ℕ → Read (List ℕ)
counted_at k b = count_at k b >>= λ n. bytes_at n.0 n.1

unfoldable pub many_at : (List ℕ → Read Val) → ℕ → List ℕ → Read (List Val)
many_at p zero b = Ok ([], b)
many_at p (suc n) b = p b >>= λ v. many_at p n v.1 >>= λ vs. Ok (v.0 ∷ vs.0, vs.1)

unfoldable pub entries_at : (List ℕ → Read Val) → ℕ → List ℕ → Read (List (Val × Val))
entries_at p zero b = Ok ([], b)
entries_at p (suc n) b = p b >>= λ k. p k.1 >>= λ v. entries_at p n v.1 >>= λ es. Ok ((k.0, v.0) ∷ es.0, es.1)

abbrev pub list_at : (List ℕ → Read Val) → Count → List ℕ → Read Val
list_at p k b = count_at k b >>= λ n. many_at p n.0 n.1 >>= λ vs. Ok (list (vals_of vs.0), vs.1)

abbrev pub map_at : (List ℕ → Read Val) → Count → List ℕ → Read Val
map_at p k b = count_at k b >>= λ n. entries_at p n.0 n.1 >>= λ es. Ok (mapping (entries_of es.0), es.1)

-- decodes the bytes after a first byte of this form; `deeper` decodes the values inside, if they may be
-- nested deeper
unfoldable pub after : Option (List ℕ → Read Val) → Form → List ℕ → Read Val
after deeper form.Unused b = Err (Unused (length b + 1))
after deeper form.Nil b = Ok (nil, b)
after deeper (form.Bool t) b = Ok (truth t, b)
after deeper (form.PositiveFixint n) b = Ok (whole (pos n), b)
after deeper (form.NegativeFixint z) b = Ok (whole z, b)
after deeper (form.Uint w) b = number_at w b >>= λ n. Ok (whole (pos n.0), n.1)
after deeper (form.Int w) b = number_at w b >>= λ n. Ok (whole (cast_signed (width w) n.0), n.1)
after deeper form.Float32 b = number_at Four b >>= λ n. Ok (float32 n.0, n.1)
after deeper form.Float64 b = number_at Eight b >>= λ n. Ok (float64 n.0, n.1)
after deeper (form.Str k) b = counted_at k b >>= λ s. Ok (text s.0, s.1)
after deeper (form.Bin k) b = counted_at k b >>= λ s. Ok (bin s.0, s.1)
after deeper (form.Ext k) b =
    count_at k b >>= λ n. byte_at n.1 >>= λ t. bytes_at n.0 t.1
    >>= λ s. Ok (ext (cast_signed w8 t.0) s.0, s.1)
after None (form.Array k) b = Err (TooDeep (length b + 1))
after (Some p) (form.Array k) b = list_at p k b
after None (form.Map k) b = Err (TooDeep (length b + 1))
after (Some p) (form.Map k) b = map_at p k b

unfoldable pub value_by : Option (List ℕ → Read Val) → List ℕ → Read Val
value_by deeper [] = Err Short
value_by deeper (c ∷ b) = after deeper (form_of c) b

-- the decoder of the values inside a list or map that may be nested so deep
unfoldable pub inner : ℕ → Option (List ℕ → Read Val)
inner zero = None
inner (suc d) = Some (value_by (inner d))

abbrev pub value_at : ℕ → List ℕ → Read Val
value_at d b = value_by (inner d) b
