-- The canonical encoding is an encoding.
use Rattle.std.proofs.Common.{◌≡◌, ℕ, suc, ◌+◌, ◌-◌, ◌^◌, ◌≤◌, ◌<◌, pos, negsuc, Bool, true, false, cond, ltb, eqb, List, [], ◌∷◌, ◌++◌, length, refl, sym, ap, subst, ◌∙◌, arith, inl, inr}
use Rattle.std.specs.Int.{w8, w16, w32, w64, to_be_bytes, cast_signed, cast_unsigned}
use Rattle.std.proofs.lemmas.Bool.{cases_lt, lt-ltb, le-ltb, eqb-true}
use Rattle.std.proofs.lemmas.Nat.{from_be_bytes-to_be_bytes_2, from_be_bytes-to_be_bytes_4, from_be_bytes-to_be_bytes_8}
use Rattle.std.proofs.lemmas.Int.{to_z-of_z}
use Rattle.fwd_value.specs.Val.{Val, nil, truth, whole, text, bin, float32, float64, ext, list, mapping, Vals, no_vals, val, Entries, no_entries, entry}
use Rattle.fwd_msgpack.specs.declared.form.ByteWidth.TheVariants.{One, Two, Four, Eight}
use Rattle.fwd_msgpack.specs.declared.form.Count.{Count}
use Rattle.fwd_msgpack.specs.declared.form.Count.TheVariants.{Known, Sized}
use Rattle.fwd_msgpack.specs.declared.form.Form.{Form}
use Rattle.fwd_msgpack.specs.declared.form.Form.TheVariants as form
use Rattle.fwd_msgpack.specs.Table.{form_of}
use Rattle.fwd_msgpack.specs.Encodings.{number, size, Counts, EncodesAfter, EncodesAll, EncodesEntries, Encodes}
use Rattle.fwd_value.specs.Limits.{value_count, entry_count}
use Rattle.fwd_msgpack.specs.Canonical.{number_bytes, minus_bytes, text_head, bin_head, ext_head, list_head, map_head, canonical, canonical_all, canonical_entries}
use Rattle.fwd_msgpack.proofs.Encodable.{Fits, AllFit, EntriesFit}

-- ---- the table

form_small : (n : ℕ) → n < 128 → form_of n ≡ form.PositiveFixint n
unfolding form_of
form_small n lt = rw (lt-ltb n 128 lt) refl

form_map : (n : ℕ) → n < 16 → form_of (128 + n) ≡ form.Map (Known n)
unfolding form_of
form_map n lt = let e : 128 + n - 128 ≡ n = omega arith in rw (le-ltb (128 + n) 128 (omega arith), lt-ltb (128 + n) 144 (omega arith), e) refl

form_list : (n : ℕ) → n < 16 → form_of (144 + n) ≡ form.Array (Known n)
unfolding form_of
form_list n lt = let e : 144 + n - 144 ≡ n = omega arith in rw (le-ltb (144 + n) 128 (omega arith), le-ltb (144 + n) 144 (omega arith), lt-ltb (144 + n) 160 (omega arith), e) refl

form_text : (n : ℕ) → n < 32 → form_of (160 + n) ≡ form.Str (Known n)
unfolding form_of
form_text n lt = let e : 160 + n - 160 ≡ n = omega arith in rw (le-ltb (160 + n) 128 (omega arith), le-ltb (160 + n) 144 (omega arith), le-ltb (160 + n) 160 (omega arith), lt-ltb (160 + n) 192 (omega arith), e) refl

form_minus : (c : ℕ) → 224 ≤ c → form_of c ≡ form.NegativeFixint (cast_signed w8 c)
unfolding form_of
form_minus c le = rw (le-ltb c 128 (omega arith), le-ltb c 144 (omega arith), le-ltb c 160 (omega arith), le-ltb c 192 (omega arith), le-ltb c 224 le) refl

-- ---- numbers

one_is : (n : ℕ) → n ≡ number One (n ∷ [])
unfolding number
one_is n = omega arith

two_is : (n : ℕ) → n < 2 ^ 16 → n ≡ number Two (to_be_bytes w16 n)
unfolding number
two_is n lt = sym (from_be_bytes-to_be_bytes_2 n lt)

four_is : (n : ℕ) → n < 2 ^ 32 → n ≡ number Four (to_be_bytes w32 n)
unfolding number
four_is n lt = sym (from_be_bytes-to_be_bytes_4 n lt)

eight_is : (n : ℕ) → n < 2 ^ 64 → n ≡ number Eight (to_be_bytes w64 n)
unfolding number
eight_is n lt = sym (from_be_bytes-to_be_bytes_8 n lt)

number_encoded : (n : ℕ) → n < 2 ^ 64 → Encodes (whole (pos n)) (number_bytes n)
unfolding number_bytes form_of size
number_encoded n lt = elim (cases_lt n 128) [
  | inl a ↦ rw (lt-ltb n 128 a, form_small n a) (refl, refl)
  | inr a ↦ rw (le-ltb n 128 a) (elim (cases_lt n 256) [
    | inl b ↦ rw (lt-ltb n 256 b) (refl, ap pos (one_is n))
    | inr b ↦ rw (le-ltb n 256 b) (elim (cases_lt n 65536) [
      | inl d ↦ rw (lt-ltb n 65536 d) (refl, ap pos (two_is n d))
      | inr d ↦ rw (le-ltb n 65536 d) (elim (cases_lt n 4294967296) [
        | inl e ↦ rw (lt-ltb n 4294967296 e) (refl, ap pos (four_is n e))
        | inr e ↦ rw (le-ltb n 4294967296 e) (refl, ap pos (eight_is n lt))
      ])
    ])
  ])
]

-- ---- negative numbers

minus_one : (n : ℕ) → n < 128 → cast_signed w8 (255 - n) ≡ negsuc n
minus_one n lt = let e : 256 - suc (255 - n) ≡ n = omega arith in rw (le-ltb (255 - n) 128 (omega arith)) (ap negsuc e)

minus_two : (n : ℕ) → n < 2 ^ 15 → cast_signed w16 (65535 - n) ≡ negsuc n
minus_two n lt = let e : 65536 - suc (65535 - n) ≡ n = omega arith in rw (le-ltb (65535 - n) 32768 (omega arith)) (ap negsuc e)

minus_four : (n : ℕ) → n < 2 ^ 31 → cast_signed w32 (4294967295 - n) ≡ negsuc n
minus_four n lt = let e : 4294967296 - suc (4294967295 - n) ≡ n = omega arith in rw (le-ltb (4294967295 - n) 2147483648 (omega arith)) (ap negsuc e)

minus_eight : (n : ℕ) → n < 2 ^ 63 → cast_signed w64 (18446744073709551615 - n) ≡ negsuc n
minus_eight n lt = let e : 18446744073709551616 - suc (18446744073709551615 - n) ≡ n = omega arith in rw (le-ltb (18446744073709551615 - n) 9223372036854775808 (omega arith)) (ap negsuc e)

minus_encoded : (n : ℕ) → n < 2 ^ 63 → Encodes (whole (negsuc n)) (minus_bytes n)
unfolding minus_bytes form_of size
minus_encoded n lt = elim (cases_lt n 32) [
  | inl a ↦ rw (lt-ltb n 32 a, form_minus (255 - n) (omega arith)) (sym (minus_one n (omega arith)), refl)
  | inr a ↦ rw (le-ltb n 32 a) (elim (cases_lt n 128) [
    | inl b ↦ rw (lt-ltb n 128 b) (refl, sym (minus_one n b) ∙ ap (cast_signed w8) (one_is (255 - n)))
    | inr b ↦ rw (le-ltb n 128 b) (elim (cases_lt n 32768) [
      | inl d ↦ rw (lt-ltb n 32768 d) (refl, sym (minus_two n d) ∙ ap (cast_signed w16) (two_is (65535 - n) (omega arith)))
      | inr d ↦ rw (le-ltb n 32768 d) (elim (cases_lt n 2147483648) [
        | inl e ↦ rw (lt-ltb n 2147483648 e) (refl, sym (minus_four n e) ∙ ap (cast_signed w32) (four_is (4294967295 - n) (omega arith)))
        | inr e ↦ rw (le-ltb n 2147483648 e) (refl, sym (minus_eight n lt) ∙ ap (cast_signed w64) (eight_is (18446744073709551615 - n) (omega arith)))
      ])
    ])
  ])
]

-- ---- lengths: a header is a first byte of a form, and the bytes of the length

abbrev pub IsHeader : (Count → Form) → ℕ → List ℕ → Type 0
IsHeader f n head = (k : Count) × (c : ℕ) × (len : List ℕ) × (head ≡ c ∷ len) × (form_of c ≡ f k) × Counts k n len

text_headed : (n : ℕ) → n < 2 ^ 32 → IsHeader form.Str n (text_head n)
unfolding text_head form_of size
text_headed n lt = elim (cases_lt n 32) [
  | inl a ↦ rw (lt-ltb n 32 a) (Known n, 160 + n, [], refl, form_text n a, (refl, refl))
  | inr a ↦ rw (le-ltb n 32 a) (elim (cases_lt n 256) [
    | inl b ↦ rw (lt-ltb n 256 b) (Sized One, 217, n ∷ [], refl, refl, (refl, one_is n))
    | inr b ↦ rw (le-ltb n 256 b) (elim (cases_lt n 65536) [
      | inl d ↦ rw (lt-ltb n 65536 d) (Sized Two, 218, to_be_bytes w16 n, refl, refl, (refl, two_is n d))
      | inr d ↦ rw (le-ltb n 65536 d) (Sized Four, 219, to_be_bytes w32 n, refl, refl, (refl, four_is n lt))
    ])
  ])
]

bin_headed : (n : ℕ) → n < 2 ^ 32 → IsHeader form.Bin n (bin_head n)
unfolding bin_head form_of size
bin_headed n lt = elim (cases_lt n 256) [
  | inl b ↦ rw (lt-ltb n 256 b) (Sized One, 196, n ∷ [], refl, refl, (refl, one_is n))
  | inr b ↦ rw (le-ltb n 256 b) (elim (cases_lt n 65536) [
    | inl d ↦ rw (lt-ltb n 65536 d) (Sized Two, 197, to_be_bytes w16 n, refl, refl, (refl, two_is n d))
    | inr d ↦ rw (le-ltb n 65536 d) (Sized Four, 198, to_be_bytes w32 n, refl, refl, (refl, four_is n lt))
  ])
]

pub list_headed : (n : ℕ) → n < 2 ^ 32 → IsHeader form.Array n (list_head n)
unfolding list_head form_of size
list_headed n lt = elim (cases_lt n 16) [
  | inl a ↦ rw (lt-ltb n 16 a) (Known n, 144 + n, [], refl, form_list n a, (refl, refl))
  | inr a ↦ rw (le-ltb n 16 a) (elim (cases_lt n 65536) [
    | inl d ↦ rw (lt-ltb n 65536 d) (Sized Two, 220, to_be_bytes w16 n, refl, refl, (refl, two_is n d))
    | inr d ↦ rw (le-ltb n 65536 d) (Sized Four, 221, to_be_bytes w32 n, refl, refl, (refl, four_is n lt))
  ])
]

pub map_headed : (n : ℕ) → n < 2 ^ 32 → IsHeader form.Map n (map_head n)
unfolding map_head form_of size
map_headed n lt = elim (cases_lt n 16) [
  | inl a ↦ rw (lt-ltb n 16 a) (Known n, 128 + n, [], refl, form_map n a, (refl, refl))
  | inr a ↦ rw (le-ltb n 16 a) (elim (cases_lt n 65536) [
    | inl d ↦ rw (lt-ltb n 65536 d) (Sized Two, 222, to_be_bytes w16 n, refl, refl, (refl, two_is n d))
    | inr d ↦ rw (le-ltb n 65536 d) (Sized Four, 223, to_be_bytes w32 n, refl, refl, (refl, four_is n lt))
  ])
]

-- a comparison that is false
ext_known : (n m c : ℕ) (rest : List ℕ) → form_of c ≡ form.Ext (Known m) → IsHeader form.Ext n rest → IsHeader form.Ext n (cond (eqb n m) (c ∷ []) rest)
ext_known n m c rest e h = known (eqb n m) refl
  where
    known : (t : Bool) → eqb n m ≡ t → IsHeader form.Ext n (cond t (c ∷ []) rest)
    known true is = (Known m, c, [], refl, e, (eqb-true n m is, refl))
    known false is = h

ext_sized : (n : ℕ) → n < 2 ^ 32 → IsHeader form.Ext n (cond (ltb n 256) (199 ∷ n ∷ []) (cond (ltb n 65536) (200 ∷ to_be_bytes w16 n) (201 ∷ to_be_bytes w32 n)))
unfolding form_of size
ext_sized n lt = elim (cases_lt n 256) [
  | inl b ↦ rw (lt-ltb n 256 b) (Sized One, 199, n ∷ [], refl, refl, (refl, one_is n))
  | inr b ↦ rw (le-ltb n 256 b) (elim (cases_lt n 65536) [
    | inl d ↦ rw (lt-ltb n 65536 d) (Sized Two, 200, to_be_bytes w16 n, refl, refl, (refl, two_is n d))
    | inr d ↦ rw (le-ltb n 65536 d) (Sized Four, 201, to_be_bytes w32 n, refl, refl, (refl, four_is n lt))
  ])
]

pub ext_headed : (n : ℕ) → n < 2 ^ 32 → IsHeader form.Ext n (ext_head n)
unfolding ext_head form_of
ext_headed n lt =
    ext_known n 1 212 _ refl (ext_known n 2 213 _ refl (ext_known n 4 214 _ refl (ext_known n 8 215 _ refl (ext_known n 16 216 _ refl (ext_sized n lt)))))

-- a value is encoded by its header and what follows it
pub encodes_by_header : (v : Val) (f : Count → Form) (n : ℕ) (head tail : List ℕ) → IsHeader f n head → ((k : Count) (len : List ℕ) → Counts k n len → EncodesAfter v (f k) (len ++ tail)) → Encodes v (head ++ tail)
encodes_by_header v f n head tail h g =
    let s : EncodesAfter v (form_of h.1) (h.2 ++ tail) = subst (λ (x : Form). EncodesAfter v x (h.2 ++ tail)) (sym h.4) (g h.0 h.2 h.5) in
    subst (λ (x : List ℕ). Encodes v (x ++ tail)) (sym h.3) s

mutual
  unfolding form_of size

  pub canonical_encodes : (v : Val) → Fits v → Encodes v (canonical v)
  canonical_encodes nil h = refl
  canonical_encodes (truth false) h = (refl, refl)
  canonical_encodes (truth true) h = (refl, refl)
  canonical_encodes (whole (pos n)) h = number_encoded n h
  canonical_encodes (whole (negsuc n)) h = minus_encoded n h
  canonical_encodes (text s) h = encodes_by_header (text s) form.Str (length s) (text_head (length s)) s (text_headed (length s) h) (λ k len c. (len, c, refl))
  canonical_encodes (bin s) h = encodes_by_header (bin s) form.Bin (length s) (bin_head (length s)) s (bin_headed (length s) h) (λ k len c. (len, c, refl))
  canonical_encodes (float32 n) h = (refl, four_is n h)
  canonical_encodes (float64 n) h = (refl, eight_is n h)
  canonical_encodes (ext t s) h = encodes_by_header (ext t s) form.Ext (length s) (ext_head (length s)) (cast_unsigned w8 t ∷ s) (ext_headed (length s) h.1) (λ k len c. (len, cast_unsigned w8 t, c, sym (to_z-of_z w8 t h.0), refl))
  canonical_encodes (list vs) h = encodes_by_header (list vs) form.Array (value_count vs) (list_head (value_count vs)) (canonical_all vs) (list_headed (value_count vs) h.0) (λ k len c. (len, canonical_all vs, c, refl, all_encoded vs h.1))
  canonical_encodes (mapping es) h = encodes_by_header (mapping es) form.Map (entry_count es) (map_head (entry_count es)) (canonical_entries es) (map_headed (entry_count es) h.0) (λ k len c. (len, canonical_entries es, c, refl, entries_encoded es h.1))

  pub all_encoded : (vs : Vals) → AllFit vs → EncodesAll vs (canonical_all vs)
  all_encoded no_vals h = refl
  all_encoded (val v vs) h = (canonical v, canonical_all vs, refl, canonical_encodes v h.0, all_encoded vs h.1)

  pub entries_encoded : (es : Entries) → EntriesFit es → EncodesEntries es (canonical_entries es)
  entries_encoded no_entries h = refl
  entries_encoded (entry k v es) h = (canonical k, canonical v, canonical_entries es, refl, canonical_encodes k h.0, canonical_encodes v h.1, entries_encoded es h.2)
