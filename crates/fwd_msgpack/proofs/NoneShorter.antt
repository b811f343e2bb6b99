-- No encoding is shorter than the canonical one.
use Rattle.std.proofs.Common.{◌≡◌, ℕ, zero, suc, ◌-◌, ◌*◌, ◌^◌, ◌≤◌, ◌<◌, ℤ, pos, negsuc, Bool, true, false, cond, ltb, eqb, List, [], ◌∷◌, ◌++◌, length, get_or, refl, sym, ap, subst, arith, inl, inr}
use Rattle.std.specs.Int.{w16, w32, cast_signed, to_be_bytes}
use Rattle.std.proofs.lemmas.Bool.{cases_lt, lt-ltb, le-ltb}
use Rattle.std.proofs.lemmas.List.{length-append}
use Rattle.fwd_value.specs.Val.{Val, nil, truth, whole, text, bin, float32, float64, ext, list, mapping, Vals, no_vals, val, Entries, no_entries, entry}
use Rattle.fwd_msgpack.specs.declared.form.ByteWidth.{ByteWidth}
use Rattle.fwd_msgpack.specs.declared.form.ByteWidth.TheVariants.{One, Two, Four, Eight}
use Rattle.fwd_msgpack.specs.declared.form.Count.{Count}
use Rattle.fwd_msgpack.specs.declared.form.Count.TheVariants.{Known, Sized}
use Rattle.fwd_msgpack.specs.declared.form.Form.{Form}
use Rattle.fwd_msgpack.specs.declared.form.Form.TheVariants as form
use Rattle.fwd_msgpack.specs.Table.{form_of, middle}
use Rattle.fwd_msgpack.specs.Encodings.{AllBytes, width, number, size, Counts, Counted, EncodesAfter, EncodesAll, EncodesEntries, Encodes}
use Rattle.fwd_value.specs.Limits.{value_count, entry_count}
use Rattle.fwd_msgpack.specs.Canonical.{number_bytes, minus_bytes, whole_bytes, text_head, bin_head, ext_head, list_head, map_head, canonical, canonical_all, canonical_entries}
use Rattle.fwd_msgpack.proofs.Ranges.{bytes_front, bytes_back, Below, number_below}

-- ---- the lengths of the headers

abbrev wide_size : ByteWidth → ℕ
wide_size One = 1
wide_size Two = 2
wide_size Four = 4
wide_size Eight = 8

size_is : (w : ByteWidth) → size w ≡ wide_size w
unfolding size
size_is One = refl
size_is Two = refl
size_is Four = refl
size_is Eight = refl

-- lists and maps have no length of one byte
abbrev IsTwoUp : ByteWidth → Type 0
IsTwoUp One = ⊥
IsTwoUp _ = Unit {0}

number_long : (w : ByteWidth) (n : ℕ) → Below w n → length (number_bytes n) ≤ suc (wide_size w)
unfolding number_bytes
number_long One n h = elim (cases_lt n 128) [ inl a128 ↦ rw (lt-ltb n 128 a128) (omega arith) | inr a128 ↦ rw (le-ltb n 128 a128) (elim (cases_lt n 256) [ inl a256 ↦ rw (lt-ltb n 256 a256) (omega arith) | inr a256 ↦ rw (le-ltb n 256 a256) (elim (cases_lt n 65536) [ inl a65536 ↦ rw (lt-ltb n 65536 a65536) (omega arith) | inr a65536 ↦ rw (le-ltb n 65536 a65536) (elim (cases_lt n 4294967296) [ inl a4294967296 ↦ rw (lt-ltb n 4294967296 a4294967296) (omega arith) | inr a4294967296 ↦ rw (le-ltb n 4294967296 a4294967296) (omega arith) ]) ]) ]) ]
number_long Two n h = elim (cases_lt n 128) [ inl a128 ↦ rw (lt-ltb n 128 a128) (omega arith) | inr a128 ↦ rw (le-ltb n 128 a128) (elim (cases_lt n 256) [ inl a256 ↦ rw (lt-ltb n 256 a256) (omega arith) | inr a256 ↦ rw (le-ltb n 256 a256) (elim (cases_lt n 65536) [ inl a65536 ↦ rw (lt-ltb n 65536 a65536) (omega arith) | inr a65536 ↦ rw (le-ltb n 65536 a65536) (elim (cases_lt n 4294967296) [ inl a4294967296 ↦ rw (lt-ltb n 4294967296 a4294967296) (omega arith) | inr a4294967296 ↦ rw (le-ltb n 4294967296 a4294967296) (omega arith) ]) ]) ]) ]
number_long Four n h = elim (cases_lt n 128) [ inl a128 ↦ rw (lt-ltb n 128 a128) (omega arith) | inr a128 ↦ rw (le-ltb n 128 a128) (elim (cases_lt n 256) [ inl a256 ↦ rw (lt-ltb n 256 a256) (omega arith) | inr a256 ↦ rw (le-ltb n 256 a256) (elim (cases_lt n 65536) [ inl a65536 ↦ rw (lt-ltb n 65536 a65536) (omega arith) | inr a65536 ↦ rw (le-ltb n 65536 a65536) (elim (cases_lt n 4294967296) [ inl a4294967296 ↦ rw (lt-ltb n 4294967296 a4294967296) (omega arith) | inr a4294967296 ↦ rw (le-ltb n 4294967296 a4294967296) (omega arith) ]) ]) ]) ]
number_long Eight n h = elim (cases_lt n 128) [ inl a128 ↦ rw (lt-ltb n 128 a128) (omega arith) | inr a128 ↦ rw (le-ltb n 128 a128) (elim (cases_lt n 256) [ inl a256 ↦ rw (lt-ltb n 256 a256) (omega arith) | inr a256 ↦ rw (le-ltb n 256 a256) (elim (cases_lt n 65536) [ inl a65536 ↦ rw (lt-ltb n 65536 a65536) (omega arith) | inr a65536 ↦ rw (le-ltb n 65536 a65536) (elim (cases_lt n 4294967296) [ inl a4294967296 ↦ rw (lt-ltb n 4294967296 a4294967296) (omega arith) | inr a4294967296 ↦ rw (le-ltb n 4294967296 a4294967296) (omega arith) ]) ]) ]) ]

text_long : (w : ByteWidth) (n : ℕ) → Below w n → length (text_head n) ≤ suc (wide_size w)
unfolding text_head
text_long One n h = elim (cases_lt n 32) [ inl a32 ↦ rw (lt-ltb n 32 a32) (omega arith) | inr a32 ↦ rw (le-ltb n 32 a32) (elim (cases_lt n 256) [ inl a256 ↦ rw (lt-ltb n 256 a256) (omega arith) | inr a256 ↦ rw (le-ltb n 256 a256) (elim (cases_lt n 65536) [ inl a65536 ↦ rw (lt-ltb n 65536 a65536) (omega arith) | inr a65536 ↦ rw (le-ltb n 65536 a65536) (omega arith) ]) ]) ]
text_long Two n h = elim (cases_lt n 32) [ inl a32 ↦ rw (lt-ltb n 32 a32) (omega arith) | inr a32 ↦ rw (le-ltb n 32 a32) (elim (cases_lt n 256) [ inl a256 ↦ rw (lt-ltb n 256 a256) (omega arith) | inr a256 ↦ rw (le-ltb n 256 a256) (elim (cases_lt n 65536) [ inl a65536 ↦ rw (lt-ltb n 65536 a65536) (omega arith) | inr a65536 ↦ rw (le-ltb n 65536 a65536) (omega arith) ]) ]) ]
text_long Four n h = elim (cases_lt n 32) [ inl a32 ↦ rw (lt-ltb n 32 a32) (omega arith) | inr a32 ↦ rw (le-ltb n 32 a32) (elim (cases_lt n 256) [ inl a256 ↦ rw (lt-ltb n 256 a256) (omega arith) | inr a256 ↦ rw (le-ltb n 256 a256) (elim (cases_lt n 65536) [ inl a65536 ↦ rw (lt-ltb n 65536 a65536) (omega arith) | inr a65536 ↦ rw (le-ltb n 65536 a65536) (omega arith) ]) ]) ]
text_long Eight n h = elim (cases_lt n 32) [ inl a32 ↦ rw (lt-ltb n 32 a32) (omega arith) | inr a32 ↦ rw (le-ltb n 32 a32) (elim (cases_lt n 256) [ inl a256 ↦ rw (lt-ltb n 256 a256) (omega arith) | inr a256 ↦ rw (le-ltb n 256 a256) (elim (cases_lt n 65536) [ inl a65536 ↦ rw (lt-ltb n 65536 a65536) (omega arith) | inr a65536 ↦ rw (le-ltb n 65536 a65536) (omega arith) ]) ]) ]

bin_long : (w : ByteWidth) (n : ℕ) → Below w n → length (bin_head n) ≤ suc (wide_size w)
unfolding bin_head
bin_long One n h = elim (cases_lt n 256) [ inl a256 ↦ rw (lt-ltb n 256 a256) (omega arith) | inr a256 ↦ rw (le-ltb n 256 a256) (elim (cases_lt n 65536) [ inl a65536 ↦ rw (lt-ltb n 65536 a65536) (omega arith) | inr a65536 ↦ rw (le-ltb n 65536 a65536) (omega arith) ]) ]
bin_long Two n h = elim (cases_lt n 256) [ inl a256 ↦ rw (lt-ltb n 256 a256) (omega arith) | inr a256 ↦ rw (le-ltb n 256 a256) (elim (cases_lt n 65536) [ inl a65536 ↦ rw (lt-ltb n 65536 a65536) (omega arith) | inr a65536 ↦ rw (le-ltb n 65536 a65536) (omega arith) ]) ]
bin_long Four n h = elim (cases_lt n 256) [ inl a256 ↦ rw (lt-ltb n 256 a256) (omega arith) | inr a256 ↦ rw (le-ltb n 256 a256) (elim (cases_lt n 65536) [ inl a65536 ↦ rw (lt-ltb n 65536 a65536) (omega arith) | inr a65536 ↦ rw (le-ltb n 65536 a65536) (omega arith) ]) ]
bin_long Eight n h = elim (cases_lt n 256) [ inl a256 ↦ rw (lt-ltb n 256 a256) (omega arith) | inr a256 ↦ rw (le-ltb n 256 a256) (elim (cases_lt n 65536) [ inl a65536 ↦ rw (lt-ltb n 65536 a65536) (omega arith) | inr a65536 ↦ rw (le-ltb n 65536 a65536) (omega arith) ]) ]

list_long : (w : ByteWidth) → IsTwoUp w → (n : ℕ) → Below w n → length (list_head n) ≤ suc (wide_size w)
unfolding list_head
list_long One up n h = absurd up
list_long Two up n h = elim (cases_lt n 16) [ inl a16 ↦ rw (lt-ltb n 16 a16) (omega arith) | inr a16 ↦ rw (le-ltb n 16 a16) (elim (cases_lt n 65536) [ inl a65536 ↦ rw (lt-ltb n 65536 a65536) (omega arith) | inr a65536 ↦ rw (le-ltb n 65536 a65536) (omega arith) ]) ]
list_long Four up n h = elim (cases_lt n 16) [ inl a16 ↦ rw (lt-ltb n 16 a16) (omega arith) | inr a16 ↦ rw (le-ltb n 16 a16) (elim (cases_lt n 65536) [ inl a65536 ↦ rw (lt-ltb n 65536 a65536) (omega arith) | inr a65536 ↦ rw (le-ltb n 65536 a65536) (omega arith) ]) ]
list_long Eight up n h = elim (cases_lt n 16) [ inl a16 ↦ rw (lt-ltb n 16 a16) (omega arith) | inr a16 ↦ rw (le-ltb n 16 a16) (elim (cases_lt n 65536) [ inl a65536 ↦ rw (lt-ltb n 65536 a65536) (omega arith) | inr a65536 ↦ rw (le-ltb n 65536 a65536) (omega arith) ]) ]

map_long : (w : ByteWidth) → IsTwoUp w → (n : ℕ) → Below w n → length (map_head n) ≤ suc (wide_size w)
unfolding map_head
map_long One up n h = absurd up
map_long Two up n h = elim (cases_lt n 16) [ inl a16 ↦ rw (lt-ltb n 16 a16) (omega arith) | inr a16 ↦ rw (le-ltb n 16 a16) (elim (cases_lt n 65536) [ inl a65536 ↦ rw (lt-ltb n 65536 a65536) (omega arith) | inr a65536 ↦ rw (le-ltb n 65536 a65536) (omega arith) ]) ]
map_long Four up n h = elim (cases_lt n 16) [ inl a16 ↦ rw (lt-ltb n 16 a16) (omega arith) | inr a16 ↦ rw (le-ltb n 16 a16) (elim (cases_lt n 65536) [ inl a65536 ↦ rw (lt-ltb n 65536 a65536) (omega arith) | inr a65536 ↦ rw (le-ltb n 65536 a65536) (omega arith) ]) ]
map_long Eight up n h = elim (cases_lt n 16) [ inl a16 ↦ rw (lt-ltb n 16 a16) (omega arith) | inr a16 ↦ rw (le-ltb n 16 a16) (elim (cases_lt n 65536) [ inl a65536 ↦ rw (lt-ltb n 65536 a65536) (omega arith) | inr a65536 ↦ rw (le-ltb n 65536 a65536) (omega arith) ]) ]

known_short : (t : Bool) (c : ℕ) (rest : List ℕ) (m : ℕ) → 1 ≤ m → length rest ≤ m → length (cond t (c ∷ []) rest) ≤ m
known_short true c rest m lt h = omega arith
known_short false c rest m lt h = h

ext_sized_long : (w : ByteWidth) (n : ℕ) → Below w n → length (cond (ltb n 256) (199 ∷ n ∷ []) (cond (ltb n 65536) (200 ∷ to_be_bytes w16 n) (201 ∷ to_be_bytes w32 n))) ≤ suc (wide_size w)
ext_sized_long One n h = elim (cases_lt n 256) [ inl a256 ↦ rw (lt-ltb n 256 a256) (omega arith) | inr a256 ↦ rw (le-ltb n 256 a256) (elim (cases_lt n 65536) [ inl a65536 ↦ rw (lt-ltb n 65536 a65536) (omega arith) | inr a65536 ↦ rw (le-ltb n 65536 a65536) (omega arith) ]) ]
ext_sized_long Two n h = elim (cases_lt n 256) [ inl a256 ↦ rw (lt-ltb n 256 a256) (omega arith) | inr a256 ↦ rw (le-ltb n 256 a256) (elim (cases_lt n 65536) [ inl a65536 ↦ rw (lt-ltb n 65536 a65536) (omega arith) | inr a65536 ↦ rw (le-ltb n 65536 a65536) (omega arith) ]) ]
ext_sized_long Four n h = elim (cases_lt n 256) [ inl a256 ↦ rw (lt-ltb n 256 a256) (omega arith) | inr a256 ↦ rw (le-ltb n 256 a256) (elim (cases_lt n 65536) [ inl a65536 ↦ rw (lt-ltb n 65536 a65536) (omega arith) | inr a65536 ↦ rw (le-ltb n 65536 a65536) (omega arith) ]) ]
ext_sized_long Eight n h = elim (cases_lt n 256) [ inl a256 ↦ rw (lt-ltb n 256 a256) (omega arith) | inr a256 ↦ rw (le-ltb n 256 a256) (elim (cases_lt n 65536) [ inl a65536 ↦ rw (lt-ltb n 65536 a65536) (omega arith) | inr a65536 ↦ rw (le-ltb n 65536 a65536) (omega arith) ]) ]

ext_long : (w : ByteWidth) (n : ℕ) → Below w n → length (ext_head n) ≤ suc (wide_size w)
unfolding ext_head
ext_long w n h =
    let m = suc (wide_size w) in
    let one : 1 ≤ m = omega arith in
    known_short (eqb n 1) 212 _ m one (known_short (eqb n 2) 213 _ m one (known_short (eqb n 4) 214 _ m one (known_short (eqb n 8) 215 _ m one (known_short (eqb n 16) 216 _ m one (ext_sized_long w n h)))))

minus_long : (w : ByteWidth) (n : ℕ) → n < 2 ^ (8 * wide_size w - 1) → length (minus_bytes n) ≤ suc (wide_size w)
unfolding minus_bytes
minus_long One n h = elim (cases_lt n 32) [ inl a32 ↦ rw (lt-ltb n 32 a32) (omega arith) | inr a32 ↦ rw (le-ltb n 32 a32) (elim (cases_lt n 128) [ inl a128 ↦ rw (lt-ltb n 128 a128) (omega arith) | inr a128 ↦ rw (le-ltb n 128 a128) (elim (cases_lt n 32768) [ inl a32768 ↦ rw (lt-ltb n 32768 a32768) (omega arith) | inr a32768 ↦ rw (le-ltb n 32768 a32768) (elim (cases_lt n 2147483648) [ inl a2147483648 ↦ rw (lt-ltb n 2147483648 a2147483648) (omega arith) | inr a2147483648 ↦ rw (le-ltb n 2147483648 a2147483648) (omega arith) ]) ]) ]) ]
minus_long Two n h = elim (cases_lt n 32) [ inl a32 ↦ rw (lt-ltb n 32 a32) (omega arith) | inr a32 ↦ rw (le-ltb n 32 a32) (elim (cases_lt n 128) [ inl a128 ↦ rw (lt-ltb n 128 a128) (omega arith) | inr a128 ↦ rw (le-ltb n 128 a128) (elim (cases_lt n 32768) [ inl a32768 ↦ rw (lt-ltb n 32768 a32768) (omega arith) | inr a32768 ↦ rw (le-ltb n 32768 a32768) (elim (cases_lt n 2147483648) [ inl a2147483648 ↦ rw (lt-ltb n 2147483648 a2147483648) (omega arith) | inr a2147483648 ↦ rw (le-ltb n 2147483648 a2147483648) (omega arith) ]) ]) ]) ]
minus_long Four n h = elim (cases_lt n 32) [ inl a32 ↦ rw (lt-ltb n 32 a32) (omega arith) | inr a32 ↦ rw (le-ltb n 32 a32) (elim (cases_lt n 128) [ inl a128 ↦ rw (lt-ltb n 128 a128) (omega arith) | inr a128 ↦ rw (le-ltb n 128 a128) (elim (cases_lt n 32768) [ inl a32768 ↦ rw (lt-ltb n 32768 a32768) (omega arith) | inr a32768 ↦ rw (le-ltb n 32768 a32768) (elim (cases_lt n 2147483648) [ inl a2147483648 ↦ rw (lt-ltb n 2147483648 a2147483648) (omega arith) | inr a2147483648 ↦ rw (le-ltb n 2147483648 a2147483648) (omega arith) ]) ]) ]) ]
minus_long Eight n h = elim (cases_lt n 32) [ inl a32 ↦ rw (lt-ltb n 32 a32) (omega arith) | inr a32 ↦ rw (le-ltb n 32 a32) (elim (cases_lt n 128) [ inl a128 ↦ rw (lt-ltb n 128 a128) (omega arith) | inr a128 ↦ rw (le-ltb n 128 a128) (elim (cases_lt n 32768) [ inl a32768 ↦ rw (lt-ltb n 32768 a32768) (omega arith) | inr a32768 ↦ rw (le-ltb n 32768 a32768) (elim (cases_lt n 2147483648) [ inl a2147483648 ↦ rw (lt-ltb n 2147483648 a2147483648) (omega arith) | inr a2147483648 ↦ rw (le-ltb n 2147483648 a2147483648) (omega arith) ]) ]) ]) ]

-- ---- the table: a length that is in the first byte has a canonical header of one byte

abbrev TightWhole : ℤ → Type 0
TightWhole (pos n) = ⊥
TightWhole (negsuc n) = length (minus_bytes n) ≤ 1

abbrev Tight : (ℕ → List ℕ) → Count → Type 0
Tight head (Known k) = length (head k) ≤ 1
Tight head (Sized w) = (n : ℕ) → Below w n → length (head n) ≤ suc (wide_size w)

abbrev TightForm : Form → Type 0
TightForm (form.PositiveFixint k) = length (number_bytes k) ≤ 1
TightForm (form.NegativeFixint z) = TightWhole z
TightForm (form.Str k) = Tight text_head k
TightForm (form.Bin k) = Tight bin_head k
TightForm (form.Ext k) = Tight ext_head k
TightForm (form.Array k) = Tight list_head k
TightForm (form.Map k) = Tight map_head k
TightForm _ = Unit {0}

abbrev EachTight : List Form → Type 0
EachTight [] = Unit {0}
EachTight (f ∷ fs) = TightForm f × EachTight fs

at_tight : (fs : List Form) → EachTight fs → (i : ℕ) → TightForm (get_or fs i form.Unused)
at_tight [] h i = tt
at_tight (f ∷ fs) h zero = h.0
at_tight (f ∷ fs) h (suc i) = at_tight fs h.1 i

middle_tight : EachTight middle
unfolding ext_head
middle_tight = (tt, (tt, (tt, (tt, (bin_long One, (bin_long Two, (bin_long Four, (ext_long One, (ext_long Two, (ext_long Four, (tt, (tt, (tt, (tt, (tt, (tt, (tt, (tt, (tt, (tt, (omega arith, (omega arith, (omega arith, (omega arith, (omega arith, (text_long One, (text_long Two, (text_long Four, (list_long Two tt, (list_long Four tt, (map_long Two tt, (map_long Four tt, tt))))))))))))))))))))))))))))))))

small_tight : (n : ℕ) → n < 128 → length (number_bytes n) ≤ 1
unfolding number_bytes
small_tight n lt = rw (lt-ltb n 128 lt) (omega arith)

text_tight : (n : ℕ) → n < 32 → length (text_head n) ≤ 1
unfolding text_head
text_tight n lt = rw (lt-ltb n 32 lt) (omega arith)

list_tight : (n : ℕ) → n < 16 → length (list_head n) ≤ 1
unfolding list_head
list_tight n lt = rw (lt-ltb n 16 lt) (omega arith)

map_tight : (n : ℕ) → n < 16 → length (map_head n) ≤ 1
unfolding map_head
map_tight n lt = rw (lt-ltb n 16 lt) (omega arith)

minus_tight : (n : ℕ) → n < 32 → length (minus_bytes n) ≤ 1
unfolding minus_bytes
minus_tight n lt = rw (lt-ltb n 32 lt) (omega arith)

form_tight : (c : ℕ) → c < 256 → TightForm (form_of c)
unfolding form_of
form_tight c lt = elim (cases_lt c 128) [
  | inl a128 ↦ rw (lt-ltb c 128 a128) (small_tight c a128)
  | inr a128 ↦ rw (le-ltb c 128 a128) (elim (cases_lt c 144) [
    | inl a144 ↦ rw (lt-ltb c 144 a144) (map_tight (c - 128) (omega arith))
    | inr a144 ↦ rw (le-ltb c 144 a144) (elim (cases_lt c 160) [
      | inl a160 ↦ rw (lt-ltb c 160 a160) (list_tight (c - 144) (omega arith))
      | inr a160 ↦ rw (le-ltb c 160 a160) (elim (cases_lt c 192) [
        | inl a192 ↦ rw (lt-ltb c 192 a192) (text_tight (c - 160) (omega arith))
        | inr a192 ↦ rw (le-ltb c 192 a192) (elim (cases_lt c 224) [
          | inl a224 ↦ rw (lt-ltb c 224 a224) (at_tight middle middle_tight (c - 192))
          | inr a224 ↦ rw (le-ltb c 224 a224) (minus_tight (256 - suc c) (omega arith))
        ])
      ])
    ])
  ])
]

-- ---- values

head_short : (head : ℕ → List ℕ) (k : Count) (n : ℕ) (len : List ℕ) → AllBytes len → Tight head k → Counts k n len → length (head n) ≤ suc (length len)
head_short head (Known k) n len h t c = subst (λ (m : ℕ). length (head m) ≤ suc (length len)) (sym c.0) (omega (arith, t))
head_short head (Sized w) n len h t c = omega (arith, t n (subst (Below w) (sym c.1) (number_below w len h)), c.0, size_is w)

counted_short : (head : ℕ → List ℕ) (k : Count) (s b : List ℕ) → AllBytes b → Tight head k → Counted k s b → length (head (length s) ++ s) ≤ suc (length b)
counted_short head k s b h t (len, c, e) =
    let short : length (head (length s)) ≤ suc (length len) = head_short head k (length s) len (bytes_front len s (subst AllBytes e h)) t c in
    omega (arith, length-append (head (length s)) s, ap length e, length-append len s)

signed_short : (w : ByteWidth) (m : ℕ) (n : ℤ) → Below w m → n ≡ cast_signed (width w) m → length (whole_bytes n) ≤ suc (wide_size w)
signed_short One m n h e = elim (cases_lt m 128) [
  | inl a ↦ rw e (rw (lt-ltb m 128 a) (number_long One m h))
  | inr a ↦ rw e (rw (le-ltb m 128 a) (minus_long One (256 - suc m) (omega arith)))
]
signed_short Two m n h e = elim (cases_lt m 32768) [
  | inl a ↦ rw e (rw (lt-ltb m 32768 a) (number_long Two m h))
  | inr a ↦ rw e (rw (le-ltb m 32768 a) (minus_long Two (65536 - suc m) (omega arith)))
]
signed_short Four m n h e = elim (cases_lt m 2147483648) [
  | inl a ↦ rw e (rw (lt-ltb m 2147483648 a) (number_long Four m h))
  | inr a ↦ rw e (rw (le-ltb m 2147483648 a) (minus_long Four (4294967296 - suc m) (omega arith)))
]
signed_short Eight m n h e = elim (cases_lt m 9223372036854775808) [
  | inl a ↦ rw e (rw (lt-ltb m 9223372036854775808 a) (number_long Eight m h))
  | inr a ↦ rw e (rw (le-ltb m 9223372036854775808 a) (minus_long Eight (18446744073709551616 - suc m) (omega arith)))
]

minus_one : (z : ℤ) → TightWhole z → length (whole_bytes z) ≤ 1
minus_one (pos n) h = absurd h
minus_one (negsuc n) h = h

whole_short : (n : ℤ) (f : Form) (b : List ℕ) → AllBytes b → TightForm f → EncodesAfter (whole n) f b → length (whole_bytes n) ≤ suc (length b)
whole_short n (form.PositiveFixint k) b h t s = subst (λ (z : ℤ). length (whole_bytes z) ≤ suc (length b)) (sym s.0) (omega (arith, t))
whole_short n (form.NegativeFixint z) b h t s = subst (λ (y : ℤ). length (whole_bytes y) ≤ suc (length b)) (sym s.0) (omega (arith, minus_one z t))
whole_short n (form.Uint w) b h t s = subst (λ (z : ℤ). length (whole_bytes z) ≤ suc (length b)) (sym s.1) (omega (arith, number_long w (number w b) (number_below w b h), s.0, size_is w))
whole_short n (form.Int w) b h t s = omega (arith, signed_short w (number w b) n (number_below w b h) s.1, s.0, size_is w)
whole_short n f b h t s = absurd s

text_short : (u : List ℕ) (f : Form) (b : List ℕ) → AllBytes b → TightForm f → EncodesAfter (text u) f b → length (canonical (text u)) ≤ suc (length b)
text_short u (form.Str k) b h t s = counted_short text_head k u b h t s
text_short u f b h t s = absurd s

bin_short : (u : List ℕ) (f : Form) (b : List ℕ) → AllBytes b → TightForm f → EncodesAfter (bin u) f b → length (canonical (bin u)) ≤ suc (length b)
bin_short u (form.Bin k) b h t s = counted_short bin_head k u b h t s
bin_short u f b h t s = absurd s

float32_short : (n : ℕ) (f : Form) (b : List ℕ) → EncodesAfter (float32 n) f b → length (canonical (float32 n)) ≤ suc (length b)
float32_short n form.Float32 b s = omega (arith, s.0, size_is Four)
float32_short n f b s = absurd s

float64_short : (n : ℕ) (f : Form) (b : List ℕ) → EncodesAfter (float64 n) f b → length (canonical (float64 n)) ≤ suc (length b)
float64_short n form.Float64 b s = omega (arith, s.0, size_is Eight)
float64_short n f b s = absurd s

ext_short : (u : ℤ) (s : List ℕ) (f : Form) (b : List ℕ) → AllBytes b → TightForm f → EncodesAfter (ext u s) f b → length (canonical (ext u s)) ≤ suc (length b)
ext_short u s (form.Ext k) b h t (len, c, n, is, e) =
    let short : length (ext_head (length s)) ≤ suc (length len) = head_short ext_head k (length s) len (bytes_front len (c ∷ s) (subst AllBytes e h)) t n in
    omega (arith, length-append {A = ℕ}, ap length e)
ext_short u s f b h t p = absurd p

-- a list or map: its header, and the rest
abbrev Parts : ℕ → List ℕ → (List ℕ → Type 0) → Type 0
Parts head b P = (len : List ℕ) × (rest : List ℕ) × (b ≡ len ++ rest) × (head ≤ suc (length len)) × AllBytes rest × P rest

list_in : (vs : Vals) (f : Form) (b : List ℕ) → AllBytes b → TightForm f → EncodesAfter (list vs) f b → Parts (length (list_head (value_count vs))) b (EncodesAll vs)
list_in vs (form.Array k) b h t (len, rest, n, e, s) =
    let all : AllBytes (len ++ rest) = subst AllBytes e h in
    (len, rest, e, head_short list_head k (value_count vs) len (bytes_front len rest all) t n, bytes_back len rest all, s)
list_in vs f b h t p = absurd p

map_in : (es : Entries) (f : Form) (b : List ℕ) → AllBytes b → TightForm f → EncodesAfter (mapping es) f b → Parts (length (map_head (entry_count es))) b (EncodesEntries es)
map_in es (form.Map k) b h t (len, rest, n, e, s) =
    let all : AllBytes (len ++ rest) = subst AllBytes e h in
    (len, rest, e, head_short map_head k (entry_count es) len (bytes_front len rest all) t n, bytes_back len rest all, s)
map_in es f b h t p = absurd p

truth_short : (t : Bool) (b : List ℕ) → length (canonical (truth t)) ≤ suc (length b)
truth_short false b = omega arith
truth_short true b = omega arith

begun : (v : Val) (b : List ℕ) → AllBytes b → Encodes v b → (f : Form) × (rest : List ℕ) × (length b ≡ suc (length rest)) × AllBytes rest × TightForm f × EncodesAfter v f rest
begun v [] h s = absurd s
begun v (c ∷ b) h s = (form_of c, b, refl, h.1, form_tight c h.0, s)

mutual
  pub follows_least : (v : Val) (f : Form) (b : List ℕ) → AllBytes b → TightForm f → EncodesAfter v f b → length (canonical v) ≤ suc (length b)
  follows_least nil f b h t s = omega arith
  follows_least (truth u) f b h t s = truth_short u b
  follows_least (whole n) f b h t s = whole_short n f b h t s
  follows_least (text u) f b h t s = text_short u f b h t s
  follows_least (bin u) f b h t s = bin_short u f b h t s
  follows_least (float32 n) f b h t s = float32_short n f b s
  follows_least (float64 n) f b h t s = float64_short n f b s
  follows_least (ext u w) f b h t s = ext_short u w f b h t s
  follows_least (list vs) f b h t s =
      let p = list_in vs f b h t s in
      omega (arith, length-append (list_head (value_count vs)) (canonical_all vs), ap length p.2, length-append p.0 p.1, p.3, all_least vs p.1 p.4 p.5)
  follows_least (mapping es) f b h t s =
      let p = map_in es f b h t s in
      omega (arith, length-append (map_head (entry_count es)) (canonical_entries es), ap length p.2, length-append p.0 p.1, p.3, entries_least es p.1 p.4 p.5)

  pub all_least : (vs : Vals) (b : List ℕ) → AllBytes b → EncodesAll vs b → length (canonical_all vs) ≤ length b
  all_least no_vals b h s = omega arith
  all_least (val v vs) b h s =
      let all : AllBytes (s.0 ++ s.1) = subst AllBytes s.2 h in
      let p = begun v s.0 (bytes_front s.0 s.1 all) s.3 in
      omega (arith, length-append (canonical v) (canonical_all vs), ap length s.2, length-append s.0 s.1, p.2, follows_least v p.0 p.1 p.3 p.4 p.5, all_least vs s.1 (bytes_back s.0 s.1 all) s.4)

  pub entries_least : (es : Entries) (b : List ℕ) → AllBytes b → EncodesEntries es b → length (canonical_entries es) ≤ length b
  entries_least no_entries b h s = omega arith
  entries_least (entry k v es) b h s =
      let all : AllBytes (s.0 ++ (s.1 ++ s.2)) = subst AllBytes s.3 h in
      let rest = bytes_back s.0 (s.1 ++ s.2) all in
      let p = begun k s.0 (bytes_front s.0 (s.1 ++ s.2) all) s.4 in
      let q = begun v s.1 (bytes_front s.1 s.2 rest) s.5 in
      omega (
        arith,
        length-append (canonical k) (canonical v ++ canonical_entries es),
        length-append (canonical v) (canonical_entries es),
        ap length s.3,
        length-append s.0 (s.1 ++ s.2),
        length-append s.1 s.2,
        p.2,
        q.2,
        follows_least k p.0 p.1 p.3 p.4 p.5,
        follows_least v q.0 q.1 q.3 q.4 q.5,
        entries_least es s.2 (bytes_back s.1 s.2 rest) s.6,
      )

pub least : (v : Val) (b : List ℕ) → AllBytes b → Encodes v b → length (canonical v) ≤ length b
least v b h s = let p = begun v b h s in omega (arith, p.2, follows_least v p.0 p.1 p.3 p.4 p.5)
