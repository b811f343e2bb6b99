-- What is decoded and written of one value.
use Rattle.std.proofs.Common.{◌≡◌, ℕ, ◌+◌, ◌-◌, ◌<◌, ◌≤◌, ℤ, pos, Bool, List, [], ◌∷◌, ◌++◌, length, get_or, take, drop, Option, Some, None, Result, Ok, Err, refl, sym, ap, ◌∙◌, append_assoc, arith, inl, inr, FitsSigned}
use Rattle.std.specs.Prelude.{IfOk, IfSome}
use Rattle.std.specs.Int.{w8, w64, cast_signed, cast_unsigned}
use Rattle.std.proofs.lemmas.List.{append-nil, length-append, length-take, take_all}
use Rattle.std.proofs.lemmas.Bool.{cases_lt, lt-ltb, le-ltb}
use Rattle.std.proofs.lemmas.Int.{of_z-to_z, to_z-of_z}
use Rattle.fwd_value.specs.Val.{Val, nil, truth, whole, text, bin, float32, float64, ext, list, mapping, vals_of, entries_of}
use Rattle.fwd_msgpack.specs.declared.form.ByteWidth.{ByteWidth}
use Rattle.fwd_msgpack.specs.declared.form.ByteWidth.TheVariants.{One, Two, Four, Eight}
use Rattle.fwd_msgpack.specs.declared.form.Count.{Count}
use Rattle.fwd_msgpack.specs.declared.form.Form.{Form}
use Rattle.fwd_msgpack.specs.declared.form.Form.TheVariants as form
use Rattle.fwd_msgpack.specs.Table.{form_of}
use Rattle.fwd_msgpack.specs.Encodings.{width, IsWithin}
use Rattle.fwd_msgpack.specs.Canonical.{number_bytes, whole_bytes, text_head, bin_head, ext_head, list_head, map_head, canonical, canonical_all, canonical_entries}
use Rattle.fwd_msgpack.specs.Decoder.{Read, number_at, bytes_at, byte_at, count_at, counted_at, many_at, entries_at, after, inner, value_by, value_at}
use Rattle.fwd_msgpack.proofs.DecodeLoops.{with_front, list_in, map_in, goes_on, is_done, pair_goes_on, pairs_done}
use Rattle.fwd_msgpack.proofs.EncodeLoops.{how_many_is, how_many_entries_is}
use Rattle.fwd_transcode.specs.Transcoded.{CopiesBytes, Transcodes, TranscodesAfter, TranscodesMap, TranscodesAll, TranscodesPair, TranscodesPairs}

-- a property of an answer implies a weaker one
pub if_given : {A E : Type 0} (r : Result (Option A) E) (P Q : A → Type 0) → ((x : A) → P x → Q x) → IfOk r (λ found. IfSome found P) → IfOk r (λ found. IfSome found Q)
if_given (Ok (Some x)) P Q f h = f x h
if_given (Ok None) P Q f h = tt
if_given (Err e) P Q f h = tt

pub if_some : {A : Type 0} (o : Option A) (P Q : A → Type 0) → ((x : A) → P x → Q x) → IfSome o P → IfSome o Q
if_some (Some x) P Q f h = f x h
if_some None P Q f h = tt

pub copied : (n : ℕ) (b front rest old new : List ℕ) → n ≤ length b → front ≡ take n b → rest ≡ drop n b → new ≡ old ++ front → CopiesBytes n b rest old new
unfolding bytes_at
copied n b front rest old new le one two e = (front, rw (le-ltb (length b) n le, one, two) refl, omega (arith, ap length one, length-take n b), e)

-- bytes with a first one
pub first_is : (b rest : List ℕ) → 1 ≤ length b → rest ≡ take (length b - 1) (drop 1 b) → b ≡ get_or b 0 0 ∷ rest
first_is [] rest long is = absurd (omega (arith, long))
first_is (x ∷ b) rest long is = let behind : rest ≡ b = is ∙ take_all (length (x ∷ b) - 1) b (omega arith) in ap (λ (t : List ℕ). x ∷ t) (sym behind)

-- ---- numbers and floats

pub uint_done : (w : ByteWidth) (b rest : List ℕ) (n : ℕ) (old new : List ℕ) → number_at w b ≡ Ok (n, rest) → new ≡ old ++ number_bytes n → TranscodesAfter (form.Uint w) b rest old new
unfolding after
uint_done w b rest n old new r e = λ deeper. (whole (pos n), rw r refl, e)

pub int_done : (w : ByteWidth) (b rest : List ℕ) (n : ℕ) (old new : List ℕ) → number_at w b ≡ Ok (n, rest) → new ≡ old ++ whole_bytes (cast_signed (width w) n) → TranscodesAfter (form.Int w) b rest old new
unfolding after
int_done w b rest n old new r e = λ deeper. (whole (cast_signed (width w) n), rw r refl, e)

pub float32_done : (b rest : List ℕ) (n : ℕ) (old new : List ℕ) → number_at Four b ≡ Ok (n, rest) → new ≡ old ++ canonical (float32 n) → TranscodesAfter form.Float32 b rest old new
unfolding after
float32_done b rest n old new r e = λ deeper. (float32 n, rw r refl, e)

pub float64_done : (b rest : List ℕ) (n : ℕ) (old new : List ℕ) → number_at Eight b ≡ Ok (n, rest) → new ≡ old ++ canonical (float64 n) → TranscodesAfter form.Float64 b rest old new
unfolding after
float64_done b rest n old new r e = λ deeper. (float64 n, rw r refl, e)

pub nil_done : (b old new : List ℕ) → new ≡ old ++ 192 ∷ [] → TranscodesAfter form.Nil b b old new
unfolding after
nil_done b old new e = λ deeper. (nil, refl, e)

pub truth_done : (t : Bool) (b old new : List ℕ) → new ≡ old ++ canonical (truth t) → TranscodesAfter (form.Bool t) b b old new
unfolding after
truth_done t b old new e = λ deeper. (truth t, refl, e)

pub positive_done : (n : ℕ) (b old new : List ℕ) → new ≡ old ++ number_bytes n → TranscodesAfter (form.PositiveFixint n) b b old new
unfolding after
positive_done n b old new e = λ deeper. (whole (pos n), refl, e)

fits_more : (z : ℤ) → FitsSigned w8 z → FitsSigned w64 z
fits_more z fits = omega (arith, fits)

-- a number of 8 bits, which is widened to 64
pub negative_done : (z : ℤ) (b old new : List ℕ) → FitsSigned w8 z → new ≡ old ++ whole_bytes (cast_signed w64 (cast_unsigned w64 (cast_signed w8 (cast_unsigned w8 z)))) → TranscodesAfter (form.NegativeFixint z) b b old new
unfolding after
negative_done z b old new fits e =
    let same = ap (λ (y : ℤ). cast_signed w64 (cast_unsigned w64 y)) (to_z-of_z w8 z fits) ∙ to_z-of_z w64 z (fits_more z fits) in
    λ deeper. (whole z, refl, e ∙ ap (λ (y : ℤ). old ++ whole_bytes y) same)

-- a number of each width stands for a number of 64 bits
pub cast_fits : (w : ByteWidth) (n : ℕ) → IsWithin w n → FitsSigned w64 (cast_signed (width w) n)
cast_fits One n h = elim (cases_lt n 128) [
  | inl a ↦ rw (lt-ltb n 128 a) (omega arith)
  | inr a ↦ rw (le-ltb n 128 a) (omega arith)
]
cast_fits Two n h = elim (cases_lt n 32768) [
  | inl a ↦ rw (lt-ltb n 32768 a) (omega arith)
  | inr a ↦ rw (le-ltb n 32768 a) (omega arith)
]
cast_fits Four n h = elim (cases_lt n 2147483648) [
  | inl a ↦ rw (lt-ltb n 2147483648 a) (omega arith)
  | inr a ↦ rw (le-ltb n 2147483648 a) (omega arith)
]
cast_fits Eight n h = elim (cases_lt n 9223372036854775808) [
  | inl a ↦ rw (lt-ltb n 9223372036854775808 a) (omega arith)
  | inr a ↦ rw (le-ltb n 9223372036854775808 a) (omega arith)
]

-- ---- bytes with a length

pub text_done : (k : Count) (b content rest : List ℕ) (n : ℕ) (old between new : List ℕ) → count_at k b ≡ Ok (n, content) → between ≡ old ++ text_head n → CopiesBytes n content rest between new → TranscodesAfter (form.Str k) b rest old new
unfolding after counted_at
text_done k b content rest n old between new c h (s, r, l, e) =
    λ deeper. (text s, rw (c, r) refl, e ∙ ap (λ (t : List ℕ). t ++ s) h ∙ append_assoc old (text_head n) s ∙ ap (λ (m : ℕ). old ++ (text_head m ++ s)) (sym l))

pub bin_done : (k : Count) (b content rest : List ℕ) (n : ℕ) (old between new : List ℕ) → count_at k b ≡ Ok (n, content) → between ≡ old ++ bin_head n → CopiesBytes n content rest between new → TranscodesAfter (form.Bin k) b rest old new
unfolding after counted_at
bin_done k b content rest n old between new c h (s, r, l, e) =
    λ deeper. (bin s, rw (c, r) refl, e ∙ ap (λ (t : List ℕ). t ++ s) h ∙ append_assoc old (bin_head n) s ∙ ap (λ (m : ℕ). old ++ (bin_head m ++ s)) (sym l))

pub ext_done : (k : Count) (b typed content rest : List ℕ) (n kind : ℕ) (old between more new : List ℕ) → kind < 256 → count_at k b ≡ Ok (n, typed) → typed ≡ kind ∷ content → between ≡ old ++ ext_head n → more ≡ between ++ kind ∷ []
    → CopiesBytes n content rest more new → TranscodesAfter (form.Ext k) b rest old new
unfolding after byte_at
ext_done k b typed content rest n kind old between more new lt c is h t (s, r, l, e) =
    let same : kind ≡ cast_unsigned w8 (cast_signed w8 kind) = sym (of_z-to_z w8 kind lt) in
    λ deeper. (
      ext (cast_signed w8 kind) s,
      rw (c, is, r) refl,
      e ∙ ap (λ (x : List ℕ). x ++ s) (t ∙ ap (λ (x : List ℕ). x ++ kind ∷ []) h) ∙ append_assoc (old ++ ext_head n) (kind ∷ []) s ∙ append_assoc old (ext_head n) (kind ∷ s)
          ∙ ap (λ (m : ℕ). old ++ (ext_head m ++ kind ∷ s)) (sym l) ∙ ap (λ (c : ℕ). old ++ (ext_head (length s) ++ c ∷ s)) same,
    )

-- ---- lists and maps

-- so many values of a list were decoded and written
abbrev pub ValuesSoFar : ℕ → ℕ → ℕ → List ℕ → List ℕ → List ℕ → List ℕ → Type 0
ValuesSoFar d count i rest b old new =
    (vs : List Val) × (with_front vs (many_at (value_at d) (count - i) rest) ≡ many_at (value_at d) count b) × (length vs ≡ i) × (new ≡ old ++ canonical_all (vals_of vs))

all_more : (vs : List Val) (v : Val) → canonical_all (vals_of (vs ++ v ∷ [])) ≡ canonical_all (vals_of vs) ++ canonical v
all_more [] v = append-nil (canonical v)
all_more (w ∷ vs) v = ap (λ (t : List ℕ). canonical w ++ t) (all_more vs v) ∙ sym (append_assoc (canonical w) (canonical_all (vals_of vs)) (canonical v))

pub one_value_more : (d count i : ℕ) (rest behind b old between new : List ℕ) → i < count → ValuesSoFar d count i rest b old between → Transcodes (value_at d rest) behind between new → ValuesSoFar d count (i + 1) behind b old new
one_value_more d count i rest behind b old between new lt (vs, so_far, many, e) (v, r, f) = (
  vs ++ v ∷ [],
  goes_on (value_at d) vs count i rest v behind (many_at (value_at d) count b) lt r so_far,
  length-append vs (v ∷ []) ∙ ap (λ (n : ℕ). n + 1) many,
  f ∙ ap (λ (t : List ℕ). t ++ canonical v) e ∙ append_assoc old (canonical_all (vals_of vs)) (canonical v) ∙ ap (λ (t : List ℕ). old ++ t) (sym (all_more vs v)),
)

pub values_done : (d count i : ℕ) (rest b old new : List ℕ) → i ≡ count → ValuesSoFar d count i rest b old new → TranscodesAll d count b rest old new
values_done d count i rest b old new is (vs, so_far, many, e) = (vs, is_done (value_at d) vs count i rest (many_at (value_at d) count b) (omega arith) so_far, many ∙ is, e)

pub list_done : (d : ℕ) (k : Count) (b content rest : List ℕ) (n : ℕ) (old between new : List ℕ) → 0 < d → count_at k b ≡ Ok (n, content) → between ≡ old ++ list_head n → TranscodesAll (d - 1) n content rest between new
    → Transcodes (after (inner d) (form.Array k) b) rest old new
list_done d k b content rest n old between new lt c h (vs, r, many, e) = (
  list (vals_of vs),
  list_in d k b lt ∙ rw (c, r) refl,
  e ∙ ap (λ (t : List ℕ). t ++ canonical_all (vals_of vs)) h ∙ append_assoc old (list_head n) (canonical_all (vals_of vs)) ∙ ap (λ (m : ℕ). old ++ (list_head m ++ canonical_all (vals_of vs))) (sym many ∙ sym (how_many_is vs)),
)

-- so many pairs of a map were decoded and written
abbrev pub PairsSoFar : ℕ → ℕ → ℕ → List ℕ → List ℕ → List ℕ → List ℕ → Type 0
PairsSoFar d count i rest b old new =
    (ps : List (Val × Val)) × (with_front ps (entries_at (value_at d) (count - i) rest) ≡ entries_at (value_at d) count b) × (length ps ≡ i) × (new ≡ old ++ canonical_entries (entries_of ps))

entries_more : (ps : List (Val × Val)) (k v : Val) → canonical_entries (entries_of (ps ++ (k, v) ∷ [])) ≡ canonical_entries (entries_of ps) ++ (canonical k ++ canonical v)
entries_more [] k v = ap (λ (t : List ℕ). canonical k ++ t) (append-nil (canonical v))
entries_more (p ∷ ps) k v =
    let more = canonical k ++ canonical v in
    ap (λ (t : List ℕ). canonical p.0 ++ (canonical p.1 ++ t)) (entries_more ps k v) ∙ ap (λ (t : List ℕ). canonical p.0 ++ t) (sym (append_assoc (canonical p.1) (canonical_entries (entries_of ps)) more))
    ∙ sym (append_assoc (canonical p.0) (canonical p.1 ++ canonical_entries (entries_of ps)) more)

pub pair_done : (d : ℕ) (b middle rest old between new : List ℕ) → Transcodes (value_at d b) middle old between → Transcodes (value_at d middle) rest between new → TranscodesPair d b rest old new
pair_done d b middle rest old between new (k, r, e) (v, q, f) = (k, v, middle, r, q, f ∙ ap (λ (t : List ℕ). t ++ canonical v) e ∙ append_assoc old (canonical k) (canonical v))

pub one_pair_more : (d count i : ℕ) (rest behind b old between new : List ℕ) → i < count → PairsSoFar d count i rest b old between → TranscodesPair d rest behind between new → PairsSoFar d count (i + 1) behind b old new
one_pair_more d count i rest behind b old between new lt (ps, so_far, many, e) (k, v, middle, r, q, f) =
    let more = canonical k ++ canonical v in (
      ps ++ (k, v) ∷ [],
      pair_goes_on (value_at d) ps count i rest k middle v behind (entries_at (value_at d) count b) lt r q so_far,
      length-append ps ((k, v) ∷ []) ∙ ap (λ (n : ℕ). n + 1) many,
      f ∙ ap (λ (t : List ℕ). t ++ more) e ∙ append_assoc old (canonical_entries (entries_of ps)) more ∙ ap (λ (t : List ℕ). old ++ t) (sym (entries_more ps k v)),
    )

pub pairs_all : (d count i : ℕ) (rest b old new : List ℕ) → i ≡ count → PairsSoFar d count i rest b old new → TranscodesPairs d count b rest old new
pairs_all d count i rest b old new is (ps, so_far, many, e) = (ps, pairs_done (value_at d) ps count i rest (entries_at (value_at d) count b) (omega arith) so_far, many ∙ is, e)

pub map_done : (d : ℕ) (k : Count) (b content rest : List ℕ) (n : ℕ) (old between new : List ℕ) → 0 < d → count_at k b ≡ Ok (n, content) → between ≡ old ++ map_head n → TranscodesPairs (d - 1) n content rest between new
    → TranscodesMap (after (inner d) (form.Map k) b) rest old new
map_done d k b content rest n old between new lt c h (ps, r, many, e) = (
  ps,
  map_in d k b lt ∙ rw (c, r) refl,
  e ∙ ap (λ (t : List ℕ). t ++ canonical_entries (entries_of ps)) h ∙ append_assoc old (map_head n) (canonical_entries (entries_of ps)) ∙ ap (λ (m : ℕ). old ++ (map_head m ++ canonical_entries (entries_of ps))) (sym many ∙ sym (how_many_entries_is ps)),
)

pub map_is_value : (read : Read Val) (rest old new : List ℕ) → TranscodesMap read rest old new → Transcodes read rest old new
map_is_value read rest old new (ps, r, e) = (mapping (entries_of ps), r, e)

-- ---- a first byte, and the bytes after it

pub after_first : (d c : ℕ) (f : Form) (b more rest old new : List ℕ) → b ≡ c ∷ more → f ≡ form_of c → Transcodes (after (inner d) f more) rest old new → Transcodes (value_at d b) rest old new
unfolding value_by
after_first d c f b more rest old new is g (v, r, e) = (v, rw (is, ← g) r, e)

pub map_after_first : (d c : ℕ) (f : Form) (b more rest old new : List ℕ) → b ≡ c ∷ more → f ≡ form_of c → TranscodesMap (after (inner d) f more) rest old new → TranscodesMap (value_at d b) rest old new
unfolding value_by
map_after_first d c f b more rest old new is g (ps, r, e) = (ps, rw (is, ← g) r, e)
