-- A value with an encoding has numbers in range, and lengths that can be encoded.
use Rattle.std.proofs.Common.{ℕ, zero, suc, ◌-◌, ◌^◌, ◌<◌, ℤ, pos, negsuc, List, [], ◌∷◌, ◌++◌, length, get_or, sym, subst, arith, inl, inr, FitsSigned}
use Rattle.std.specs.Int.{w8, cast_signed}
use Rattle.std.proofs.lemmas.Bool.{cases_lt, lt-ltb, le-ltb}
use Rattle.fwd_value.specs.Val.{Val, nil, truth, whole, text, bin, float32, float64, ext, list, mapping, Vals, no_vals, val, Entries, no_entries, entry}
use Rattle.fwd_msgpack.specs.declared.form.ByteWidth.{ByteWidth}
use Rattle.fwd_msgpack.specs.declared.form.ByteWidth.TheVariants.{One, Two, Four, Eight}
use Rattle.fwd_msgpack.specs.declared.form.Count.{Count}
use Rattle.fwd_msgpack.specs.declared.form.Count.TheVariants.{Known, Sized}
use Rattle.fwd_msgpack.specs.declared.form.Form.{Form}
use Rattle.fwd_msgpack.specs.declared.form.Form.TheVariants as form
use Rattle.fwd_msgpack.specs.Table.{form_of, middle}
use Rattle.fwd_msgpack.specs.Encodings.{AllBytes, width, number, Counts, Counted, EncodesAfter, EncodesAll, EncodesEntries, Encodes}
use Rattle.fwd_value.specs.Limits.{value_count, entry_count}
use Rattle.fwd_msgpack.proofs.Encodable.{Fits, AllFit, EntriesFit}

pub all_bytes : (b : List ℕ) → ((i : ℕ) → get_or b i 0 < 256) → AllBytes b
all_bytes [] h = tt
all_bytes (x ∷ xs) h = (h zero, all_bytes xs (λ i. h (suc i)))

pub bytes_front : (a b : List ℕ) → AllBytes (a ++ b) → AllBytes a
bytes_front [] b h = tt
bytes_front (x ∷ a) b h = (h.0, bytes_front a b h.1)

pub bytes_back : (a b : List ℕ) → AllBytes (a ++ b) → AllBytes b
bytes_back [] b h = h
bytes_back (x ∷ a) b h = bytes_back a b h.1

get_below : (b : List ℕ) → AllBytes b → (i : ℕ) → get_or b i 0 < 256
get_below [] h i = omega arith
get_below (x ∷ xs) h zero = h.0
get_below (x ∷ xs) h (suc i) = get_below xs h.1 i

-- ---- numbers

-- the whole numbers that have an encoding
abbrev pub FitsWhole : ℤ → Type 0
FitsWhole (pos n) = n < 2 ^ 64
FitsWhole (negsuc n) = n < 2 ^ 63

fits_whole : (n : ℤ) → FitsWhole n → Fits (whole n)
fits_whole (pos n) h = h
fits_whole (negsuc n) h = h

abbrev pub Below : ByteWidth → ℕ → Type 0
Below One n = n < 2 ^ 8
Below Two n = n < 2 ^ 16
Below Four n = n < 2 ^ 32
Below Eight n = n < 2 ^ 64

pub number_below : (w : ByteWidth) (b : List ℕ) → AllBytes b → Below w (number w b)
unfolding number
number_below One b h = omega (arith, get_below b h 0)
number_below Two b h = omega (arith, get_below b h 0, get_below b h 1)
number_below Four b h = omega (arith, get_below b h 0, get_below b h 1, get_below b h 2, get_below b h 3)
number_below Eight b h = omega (arith, get_below b h 0, get_below b h 1, get_below b h 2, get_below b h 3, get_below b h 4, get_below b h 5, get_below b h 6, get_below b h 7)

below_most : (w : ByteWidth) (n : ℕ) → Below w n → n < 2 ^ 64
below_most One n h = omega arith
below_most Two n h = omega arith
below_most Four n h = omega arith
below_most Eight n h = omega arith

signed_fits : (w : ByteWidth) (n : ℕ) → Below w n → FitsWhole (cast_signed (width w) n)
signed_fits One n h = elim (cases_lt n 128) [
  | inl a ↦ rw (lt-ltb n 128 a) (omega arith)
  | inr a ↦ rw (le-ltb n 128 a) (omega arith)
]
signed_fits Two n h = elim (cases_lt n 32768) [
  | inl a ↦ rw (lt-ltb n 32768 a) (omega arith)
  | inr a ↦ rw (le-ltb n 32768 a) (omega arith)
]
signed_fits Four n h = elim (cases_lt n 2147483648) [
  | inl a ↦ rw (lt-ltb n 2147483648 a) (omega arith)
  | inr a ↦ rw (le-ltb n 2147483648 a) (omega arith)
]
signed_fits Eight n h = elim (cases_lt n 9223372036854775808) [
  | inl a ↦ rw (lt-ltb n 9223372036854775808 a) (omega arith)
  | inr a ↦ rw (le-ltb n 9223372036854775808 a) (omega arith)
]

type_fits : (n : ℕ) → n < 256 → FitsSigned w8 (cast_signed w8 n)
type_fits n h = elim (cases_lt n 128) [
  | inl a ↦ rw (lt-ltb n 128 a) (omega arith)
  | inr a ↦ rw (le-ltb n 128 a) (omega arith)
]

-- ---- the table

abbrev CountFits : Count → Type 0
CountFits (Known k) = k < 2 ^ 32
CountFits (Sized One) = Unit {0}
CountFits (Sized Two) = Unit {0}
CountFits (Sized Four) = Unit {0}
CountFits (Sized Eight) = ⊥

abbrev FormFits : Form → Type 0
FormFits (form.PositiveFixint k) = k < 2 ^ 64
FormFits (form.NegativeFixint z) = FitsWhole z
FormFits (form.Str k) = CountFits k
FormFits (form.Bin k) = CountFits k
FormFits (form.Ext k) = CountFits k
FormFits (form.Array k) = CountFits k
FormFits (form.Map k) = CountFits k
FormFits _ = Unit {0}

abbrev EachFits : List Form → Type 0
EachFits [] = Unit {0}
EachFits (f ∷ fs) = FormFits f × EachFits fs

at_fits : (fs : List Form) → EachFits fs → (i : ℕ) → FormFits (get_or fs i form.Unused)
at_fits [] h i = tt
at_fits (f ∷ fs) h zero = h.0
at_fits (f ∷ fs) h (suc i) = at_fits fs h.1 i

middle_fits : EachFits middle
middle_fits = (tt, (tt, (tt, (tt, (tt, (tt, (tt, (tt, (tt, (tt, (tt, (tt, (tt, (tt, (tt, (tt, (tt, (tt, (tt, (tt, (omega arith, (omega arith, (omega arith, (omega arith, (omega arith, (tt, (tt, (tt, (tt, (tt, (tt, (tt, tt))))))))))))))))))))))))))))))))

form_fits : (c : ℕ) → c < 256 → FormFits (form_of c)
unfolding form_of
form_fits c lt = elim (cases_lt c 128) [
  | inl a ↦ rw (lt-ltb c 128 a) (omega arith)
  | inr a ↦ rw (le-ltb c 128 a) (elim (cases_lt c 144) [
    | inl a ↦ rw (lt-ltb c 144 a) (omega arith)
    | inr a ↦ rw (le-ltb c 144 a) (elim (cases_lt c 160) [
      | inl a ↦ rw (lt-ltb c 160 a) (omega arith)
      | inr a ↦ rw (le-ltb c 160 a) (elim (cases_lt c 192) [
        | inl a ↦ rw (lt-ltb c 192 a) (omega arith)
        | inr a ↦ rw (le-ltb c 192 a) (elim (cases_lt c 224) [
          | inl a ↦ rw (lt-ltb c 224 a) (at_fits middle middle_fits (c - 192))
          | inr a ↦ rw (le-ltb c 224 a) (omega arith)
        ])
      ])
    ])
  ])
]

-- ---- values

counts_fit : (k : Count) (n : ℕ) (b : List ℕ) → AllBytes b → CountFits k → Counts k n b → n < 2 ^ 32
counts_fit (Known k) n b h f c = rw c.0 f
counts_fit (Sized One) n b h f c = omega (arith, c.1, number_below One b h)
counts_fit (Sized Two) n b h f c = omega (arith, c.1, number_below Two b h)
counts_fit (Sized Four) n b h f c = omega (arith, c.1, number_below Four b h)
counts_fit (Sized Eight) n b h f c = absurd f

counted_fit : (k : Count) (s b : List ℕ) → AllBytes b → CountFits k → Counted k s b → length s < 2 ^ 32
counted_fit k s b h f (len, c, e) = counts_fit k (length s) len (bytes_front len s (subst AllBytes e h)) f c

whole_fits : (n : ℤ) (f : Form) (b : List ℕ) → AllBytes b → FormFits f → EncodesAfter (whole n) f b → FitsWhole n
whole_fits n (form.PositiveFixint k) b h f s = subst FitsWhole (sym s.0) f
whole_fits n (form.NegativeFixint z) b h f s = subst FitsWhole (sym s.0) f
whole_fits n (form.Uint w) b h f s = subst FitsWhole (sym s.1) (below_most w (number w b) (number_below w b h))
whole_fits n (form.Int w) b h f s = subst FitsWhole (sym s.1) (signed_fits w (number w b) (number_below w b h))
whole_fits n f b h g s = absurd s

text_fits : (s : List ℕ) (f : Form) (b : List ℕ) → AllBytes b → FormFits f → EncodesAfter (text s) f b → length s < 2 ^ 32
text_fits s (form.Str k) b h f c = counted_fit k s b h f c
text_fits s f b h g c = absurd c

bin_fits : (s : List ℕ) (f : Form) (b : List ℕ) → AllBytes b → FormFits f → EncodesAfter (bin s) f b → length s < 2 ^ 32
bin_fits s (form.Bin k) b h f c = counted_fit k s b h f c
bin_fits s f b h g c = absurd c

float32_fits : (n : ℕ) (f : Form) (b : List ℕ) → AllBytes b → EncodesAfter (float32 n) f b → n < 2 ^ 32
float32_fits n form.Float32 b h c = omega (arith, c.1, number_below Four b h)
float32_fits n f b h c = absurd c

float64_fits : (n : ℕ) (f : Form) (b : List ℕ) → AllBytes b → EncodesAfter (float64 n) f b → n < 2 ^ 64
float64_fits n form.Float64 b h c = omega (arith, c.1, number_below Eight b h)
float64_fits n f b h c = absurd c

ext_fits : (t : ℤ) (s : List ℕ) (f : Form) (b : List ℕ) → AllBytes b → FormFits f → EncodesAfter (ext t s) f b → FitsSigned w8 t × (length s < 2 ^ 32)
ext_fits t s (form.Ext k) b h f (len, c, n, is, e) =
    let all : AllBytes (len ++ c ∷ s) = subst AllBytes e h in
    (subst (FitsSigned w8) (sym is) (type_fits c (bytes_back len (c ∷ s) all).0), counts_fit k (length s) len (bytes_front len (c ∷ s) all) f n)
ext_fits t s f b h g c = absurd c

list_parts : (vs : Vals) (f : Form) (b : List ℕ) → AllBytes b → FormFits f → EncodesAfter (list vs) f b → (rest : List ℕ) × (value_count vs < 2 ^ 32) × AllBytes rest × EncodesAll vs rest
list_parts vs (form.Array k) b h f (len, rest, n, e, s) =
    let all : AllBytes (len ++ rest) = subst AllBytes e h in
    (rest, counts_fit k (value_count vs) len (bytes_front len rest all) f n, bytes_back len rest all, s)
list_parts vs f b h g c = absurd c

map_parts : (es : Entries) (f : Form) (b : List ℕ) → AllBytes b → FormFits f → EncodesAfter (mapping es) f b → (rest : List ℕ) × (entry_count es < 2 ^ 32) × AllBytes rest × EncodesEntries es rest
map_parts es (form.Map k) b h f (len, rest, n, e, s) =
    let all : AllBytes (len ++ rest) = subst AllBytes e h in
    (rest, counts_fit k (entry_count es) len (bytes_front len rest all) f n, bytes_back len rest all, s)
map_parts es f b h g c = absurd c

parted : (v : Val) (b : List ℕ) → AllBytes b → Encodes v b → (f : Form) × (rest : List ℕ) × AllBytes rest × FormFits f × EncodesAfter v f rest
parted v [] h s = absurd s
parted v (c ∷ b) h s = (form_of c, b, h.1, form_fits c h.0, s)

mutual
  pub encoded_fits : (v : Val) (f : Form) (b : List ℕ) → AllBytes b → FormFits f → EncodesAfter v f b → Fits v
  encoded_fits nil f b h g s = tt
  encoded_fits (truth t) f b h g s = tt
  encoded_fits (whole n) f b h g s = fits_whole n (whole_fits n f b h g s)
  encoded_fits (text t) f b h g s = text_fits t f b h g s
  encoded_fits (bin t) f b h g s = bin_fits t f b h g s
  encoded_fits (float32 n) f b h g s = float32_fits n f b h s
  encoded_fits (float64 n) f b h g s = float64_fits n f b h s
  encoded_fits (ext t u) f b h g s = ext_fits t u f b h g s
  encoded_fits (list vs) f b h g s = let p = list_parts vs f b h g s in (p.1, all_fit vs p.0 p.2 p.3)
  encoded_fits (mapping es) f b h g s = let p = map_parts es f b h g s in (p.1, entries_fit es p.0 p.2 p.3)

  pub all_fit : (vs : Vals) (b : List ℕ) → AllBytes b → EncodesAll vs b → AllFit vs
  all_fit no_vals b h s = tt
  all_fit (val v vs) b h s =
      let all : AllBytes (s.0 ++ s.1) = subst AllBytes s.2 h in
      (let p = parted v s.0 (bytes_front s.0 s.1 all) s.3 in encoded_fits v p.0 p.1 p.2 p.3 p.4, all_fit vs s.1 (bytes_back s.0 s.1 all) s.4)

  pub entries_fit : (es : Entries) (b : List ℕ) → AllBytes b → EncodesEntries es b → EntriesFit es
  entries_fit no_entries b h s = tt
  entries_fit (entry k v es) b h s =
      let all : AllBytes (s.0 ++ (s.1 ++ s.2)) = subst AllBytes s.3 h in
      let rest = bytes_back s.0 (s.1 ++ s.2) all in
      (let p = parted k s.0 (bytes_front s.0 (s.1 ++ s.2) all) s.4 in encoded_fits k p.0 p.1 p.2 p.3 p.4, let p = parted v s.1 (bytes_front s.1 s.2 rest) s.5 in encoded_fits v p.0 p.1 p.2 p.3 p.4, entries_fit es s.2 (bytes_back s.1 s.2 rest) s.6)

pub encodings_fit : (v : Val) (b : List ℕ) → AllBytes b → Encodes v b → Fits v
encodings_fit v b h s = let p = parted v b h s in encoded_fits v p.0 p.1 p.2 p.3 p.4
