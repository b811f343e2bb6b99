-- What each answer of `decode` means.
use Rattle.std.proofs.Common.{◌≡◌, ℕ, zero, suc, ◌+◌, ◌-◌, ◌≤◌, ◌<◌, Bool, true, false, List, [], ◌∷◌, ◌++◌, length, take, drop, get_or, Ok, Err, sym, ap, subst, ◌∙◌, append_assoc, arith, inl, inr, ◌⊎◌, ◌↔◌}
use Rattle.std.proofs.lemmas.Bool.{cases_lt}
use Rattle.std.proofs.lemmas.List.{take_at, take-append-drop, length-append, length-drop, append-nil, take_all, get_or_at}
use Rattle.fwd_value.specs.Val.{Val}
use Rattle.fwd_value.specs.View.{val_of}
use Rattle.fwd_msgpack.specs.declared.errors.DecodeErr.TheVariants as errors
use Rattle.fwd_msgpack.specs.declared.fault.FormatErr.{FormatErr}
use Rattle.fwd_msgpack.specs.declared.fault.FormatErr.TheVariants.{Short, Unused, TooDeep}
use Rattle.fwd_msgpack.specs.declared.form.Form.{Form}
use Rattle.fwd_msgpack.specs.declared.form.Form.TheVariants as form
use Rattle.fwd_msgpack.specs.Table.{form_of}
use Rattle.fwd_msgpack.specs.Encodings.{AllBytes, EncodesNested}
use Rattle.fwd_msgpack.specs.Decoder.{value_at}
use Rattle.fwd_msgpack.specs.DecodeAnswers.{Decoded, Decodes, EncodesPrefix, IsPrefix, IsProperPrefix, BeginsNoValue, IsErrorOffset, FailsAtForm, IsUnused, IsListOrMap, ReturnsValue, IsMemory, IsShort, IsUnusedAt, IsTooDeepAt}
use Rattle.fwd_msgpack.proofs.Decoders.{stop, IsCause, Reads, not_ok, ok_first, ok_rest}
use Rattle.fwd_msgpack.proofs.Grammar.{reads}
use Rattle.fwd_msgpack.proofs.Ranges.{all_bytes, bytes_front, encodings_fit}
use Rattle.fwd_value.specs.Limits.{IsInRange, LengthsFit}
use Rattle.fwd_msgpack.proofs.Encodable.{Fits, fits_range, fits_lengths}
use Rattle.std.specs.Prelude.{IfOk}

abbrev r : Reads (value_at 64) (EncodesNested 64)
r = reads 64

-- ---- a value

pub ok_fits : (b : List ℕ) (v : Val) (rest : List ℕ) → value_at 64 b ≡ Ok (v, rest) → length rest ≤ length b
ok_fits b v rest e = let s = r.sound b v rest e in omega (arith, ap length s.1, length-append s.0 rest)

pub stop_fits : (k : Bool) (b : List ℕ) (left : ℕ) → value_at 64 b ≡ Err (stop k left) → left ≤ length b
stop_fits k b left e = let s = r.stops k b left e in omega (arith, ap length s.parts, length-append s.front (s.byte ∷ s.rest), s.left_is)

ok_front : (b : List ℕ) (v : Val) (n : ℕ) (rest : List ℕ) → value_at 64 b ≡ Ok (v, rest) → n + length rest ≡ length b → EncodesPrefix v n b
ok_front b v n rest e len =
    let s = r.sound b v rest e in
    let n-is : length s.0 ≡ n = omega (arith, ap length s.1, length-append s.0 rest) in
    let front : take n b ≡ s.0 = ap (take n) s.1 ∙ take_at s.0 rest n n-is in
    (omega arith, rw front s.2.0, s.2.1)

front_ok : (b : List ℕ) (v : Val) (n : ℕ) → EncodesPrefix v n b → value_at 64 b ≡ Ok (v, drop n b)
front_ok b v n h = ap (value_at 64) (sym (take-append-drop n b)) ∙ r.whole v (take n b) (drop n b) (h.1, h.2)

value_to : (b : List ℕ) (res : Decoded) → Decodes b res → (v : Val) (n : ℕ) → ReturnsValue res v n → EncodesPrefix v n b
value_to b (Ok x) h v n g = subst (λ (w : Val). EncodesPrefix w n b) g.0 (ok_front b (val_of x.0) n h.0 h.1 (omega (arith, g.1, h.2)))
value_to b (Err e) h v n g = absurd g

value_from : (b : List ℕ) (res : Decoded) → Decodes b res → (v : Val) (n : ℕ) → EncodesPrefix v n b → IsMemory res ⊎ ReturnsValue res v n
value_from b (Ok x) h v n s =
    let e : value_at 64 b ≡ Ok (v, drop n b) = front_ok b v n s in
    let same = sym h.1 ∙ e in
    let rest = ok_rest _ _ _ _ same in
    inr (ok_first _ _ _ _ same, omega (arith, h.2, ap length rest, length-drop n b, s.0))
value_from b (Err errors.Short) h v n s = absurd (not_ok v (drop n b) Short (sym (front_ok b v n s) ∙ h))
value_from b (Err (errors.Unused at)) h v n s = absurd (not_ok v (drop n b) (Unused h.0) (sym (front_ok b v n s) ∙ h.1))
value_from b (Err (errors.TooDeep at)) h v n s = absurd (not_ok v (drop n b) (TooDeep h.0) (sym (front_ok b v n s) ∙ h.1))
value_from b (Err errors.Memory) h v n s = inl tt

memory_or_not : (res : Decoded) → IsMemory res ⊎ (IsMemory res → ⊥)
memory_or_not (Ok x) = inr (λ h. h)
memory_or_not (Err errors.Short) = inr (λ h. h)
memory_or_not (Err (errors.Unused at)) = inr (λ h. h)
memory_or_not (Err (errors.TooDeep at)) = inr (λ h. h)
memory_or_not (Err errors.Memory) = inl tt

-- from one direction, unless memory was out
exactly : (res : Decoded) (A B : Type 0) → (A → B) → (B → IsMemory res ⊎ A) → IsMemory res ⊎ (A ↔ B)
exactly res A B to from = elim (memory_or_not res) [
  | inl m ↦ inl m
  | inr never ↦ inr (to, λ y. elim (from y) [ inl m ↦ absurd (never m) | inr x ↦ x ])
]

pub value_exactly : (b : List ℕ) (res : Decoded) → Decodes b res → (v : Val) (n : ℕ) → IsMemory res ⊎ (ReturnsValue res v n ↔ EncodesPrefix v n b)
value_exactly b res h v n = exactly res (ReturnsValue res v n) (EncodesPrefix v n b) (value_to b res h v n) (value_from b res h v n)

-- ---- too short

whole_all : (v : Val) (b : List ℕ) → EncodesNested 64 v b → value_at 64 b ≡ Ok (v, [])
whole_all v b h = ap (value_at 64) (sym (append-nil b)) ∙ r.whole v b [] h

grown : (b : List ℕ) (v : Val) (more : List ℕ) → AllBytes more → value_at 64 b ≡ Err Short → EncodesNested 64 v (b ++ more) → IsProperPrefix b
grown b v [] y e h = absurd (not_ok v [] Short (sym (whole_all v b (subst (EncodesNested 64 v) (append-nil b) h)) ∙ e))
grown b v (c ∷ more) y e h = (v, c, more, y, h.0, h.1)

short_to : (b : List ℕ) (res : Decoded) → Decodes b res → IsShort res → IsProperPrefix b
short_to b (Ok x) h s = absurd s
short_to b (Err errors.Short) h s = let g = r.short b h in grown b g.0 g.1 g.2 h g.3
short_to b (Err (errors.Unused at)) h s = absurd s
short_to b (Err (errors.TooDeep at)) h s = absurd s
short_to b (Err errors.Memory) h s = absurd s

-- a proper prefix of an encoding is neither whole nor an error
only_not_ok : (b : List ℕ) (v : Val) (rest : List ℕ) → IsProperPrefix b → value_at 64 b ≡ Ok (v, rest) → ⊥
only_not_ok b v rest s e =
    let f = r.sound b v rest e in
    let more = s.1 ∷ s.2 in
    let one : value_at 64 (b ++ more) ≡ Ok (s.0, []) = whole_all s.0 (b ++ more) (s.4, s.5) in
    let parts : b ++ more ≡ f.0 ++ (rest ++ more) = ap (λ (t : List ℕ). t ++ more) f.1 ∙ append_assoc f.0 rest more in
    let two : value_at 64 (b ++ more) ≡ Ok (v, rest ++ more) = ap (value_at 64) parts ∙ r.whole v f.0 (rest ++ more) f.2 in
    let none : [] ≡ rest ++ more = ok_rest _ _ _ _ (sym one ∙ two) in
    omega (arith, ap length none, length-append rest more)

starts_not_stopped : (k : Bool) (front : List ℕ) (byte : ℕ) (other : List ℕ) → ((rest : List ℕ) → value_at 64 (front ++ byte ∷ rest) ≡ Err (stop k (length rest + 1))) → IsPrefix (front ++ byte ∷ other) → ⊥
starts_not_stopped k front byte other always s =
    let parts : (front ++ byte ∷ other) ++ s.1 ≡ front ++ byte ∷ (other ++ s.1) = append_assoc front (byte ∷ other) s.1 in
    let one : value_at 64 ((front ++ byte ∷ other) ++ s.1) ≡ Ok (s.0, []) = whole_all s.0 ((front ++ byte ∷ other) ++ s.1) (s.3, s.4) in
    not_ok s.0 [] (stop k (length (other ++ s.1) + 1)) (sym one ∙ ap (value_at 64) parts ∙ always (other ++ s.1))

only_starts : (b : List ℕ) → IsProperPrefix b → IsPrefix b
only_starts b s = (s.0, s.1 ∷ s.2, s.3, s.4, s.5)

only_not_stopped : (b : List ℕ) (k : Bool) (left : ℕ) → IsProperPrefix b → value_at 64 b ≡ Err (stop k left) → ⊥
only_not_stopped b k left s e =
    let t = r.stops k b left e in
    starts_not_stopped k t.front t.byte t.rest t.always (subst IsPrefix t.parts (only_starts b s))

short_from : (b : List ℕ) (res : Decoded) → Decodes b res → IsProperPrefix b → IsMemory res ⊎ IsShort res
short_from b (Ok x) h s = absurd (only_not_ok b (val_of x.0) h.0 s h.1)
short_from b (Err errors.Short) h s = inr tt
short_from b (Err (errors.Unused at)) h s = absurd (only_not_stopped b false h.0 s h.1)
short_from b (Err (errors.TooDeep at)) h s = absurd (only_not_stopped b true h.0 s h.1)
short_from b (Err errors.Memory) h s = inl tt

pub short_exactly : (b : List ℕ) (res : Decoded) → Decodes b res → IsMemory res ⊎ (IsShort res ↔ IsProperPrefix b)
short_exactly b res h = exactly res (IsShort res) (IsProperPrefix b) (short_to b res h) (short_from b res h)

-- ---- the byte that is the error

err_nothing : (b : List ℕ) (d : FormatErr) → value_at 64 b ≡ Err d → BeginsNoValue b
err_nothing b d e v n s = not_ok v (drop n b) d (sym (front_ok b v n s) ∙ e)

take_past : (front : List ℕ) (byte : ℕ) (rest : List ℕ) (m : ℕ) → length front < m → take m (front ++ byte ∷ rest) ≡ front ++ byte ∷ take (m - (length front + 1)) rest
take_past [] byte rest zero lt = absurd (omega arith)
take_past [] byte rest (suc m) lt = let e : m ≡ suc m - (0 + 1) = omega arith in ap (λ (n : ℕ). byte ∷ take n rest) e
take_past (c ∷ front) byte rest zero lt = absurd (omega arith)
take_past (c ∷ front) byte rest (suc m) lt =
    let e : m - (length front + 1) ≡ suc m - (suc (length front) + 1) = omega arith in
    ap (λ (t : List ℕ). c ∷ t) (take_past front byte rest m (omega arith) ∙ ap (λ (n : ℕ). front ++ byte ∷ take n rest) e)

abbrev Stops : Bool → ℕ → List ℕ → Type 0
Stops k n b = FailsAtForm (IsCause k) n b

stops_at : (b : List ℕ) (k : Bool) (left n : ℕ) → value_at 64 b ≡ Err (stop k left) → n + left ≡ length b → Stops k n b
stops_at b k left n e len =
    let t = r.stops k b left e in
    let size = length-append t.front (t.byte ∷ t.rest) in
    let n-is : length t.front ≡ n = omega (arith, ap length t.parts, size, t.left_is) in
    let front : take n b ≡ t.front = ap (take n) t.parts ∙ take_at t.front (t.byte ∷ t.rest) n n-is in
    let byte : get_or b n 0 ≡ t.byte = ap (λ (x : List ℕ). get_or x n 0) t.parts ∙ get_or_at t.front t.byte t.rest 0 n n-is in (
      err_nothing b (stop k left) e,
      record {
        within = omega arith;
        starts = rw front (t.begins.0, t.begins.1, t.begins.2, t.begins.3.0, t.begins.3.1);
        longest = λ m lt le s.
            let past : take m b ≡ t.front ++ t.byte ∷ take (m - (length t.front + 1)) t.rest = ap (take m) t.parts ∙ take_past t.front t.byte t.rest m (omega arith) in
            starts_not_stopped k t.front t.byte (take (m - (length t.front + 1)) t.rest) t.always (subst IsPrefix past s);
      },
      omega (arith, ap length t.parts, size),
      rw byte t.cause,
    )

one_stop : (b : List ℕ) (m n : ℕ) → IsErrorOffset b m → IsErrorOffset b n → m ≡ n
one_stop b m n x y = elim (cases_lt m n) [
  | inl lt ↦ absurd (x.longest n lt y.within y.starts)
  | inr le ↦ elim (cases_lt n m) [
    | inl lt ↦ absurd (y.longest m lt x.within x.starts)
    | inr ge ↦ omega arith
  ]
]

no_stop : (b : List ℕ) (k : Bool) (n : ℕ) → Stops k n b → IsPrefix b → ⊥
no_stop b k n h s = h.1.longest (length b) h.2 (omega arith) (subst IsPrefix (sym (take_all (length b) b (omega arith))) s)

one_cause : (f : Form) → IsCause false f → IsCause true f → ⊥
one_cause form.Unused x y = y
one_cause f x y = x

other_stop : (b : List ℕ) (m n : ℕ) → Stops false m b → Stops true n b → ⊥
other_stop b m n x y =
    let e = one_stop b m n x.1 y.1 in
    one_cause (form_of (get_or b n 0)) (subst (λ (i : ℕ). IsCause false (form_of (get_or b i 0))) e x.3) y.3

to_unused : (f : Form) → IsCause false f → IsUnused f
to_unused form.Unused h = tt
to_unused f h = absurd h

from_unused : (f : Form) → IsUnused f → IsCause false f
from_unused form.Unused h = tt
from_unused f h = absurd h

to_deep : (f : Form) → IsCause true f → IsListOrMap f
to_deep (form.Array k) h = tt
to_deep (form.Map k) h = tt
to_deep f h = absurd h

from_deep : (f : Form) → IsListOrMap f → IsCause true f
from_deep (form.Array k) h = tt
from_deep (form.Map k) h = tt
from_deep f h = absurd h

unused_to : (b : List ℕ) (res : Decoded) → Decodes b res → (n : ℕ) → IsUnusedAt res n → Stops false n b
unused_to b (Ok x) h n s = absurd s
unused_to b (Err errors.Short) h n s = absurd s
unused_to b (Err (errors.Unused at)) h n s = stops_at b false h.0 n h.1 (omega (arith, s, h.2))
unused_to b (Err (errors.TooDeep at)) h n s = absurd s
unused_to b (Err errors.Memory) h n s = absurd s

unused_from : (b : List ℕ) (res : Decoded) → Decodes b res → (n : ℕ) → Stops false n b → IsMemory res ⊎ IsUnusedAt res n
unused_from b (Ok x) h n s = absurd (s.0 (val_of x.0) x.1 (ok_front b (val_of x.0) x.1 h.0 h.1 h.2))
unused_from b (Err errors.Short) h n s = absurd (no_stop b false n s (let g = r.short b h in (g.0, g.1, g.2, g.3.0, g.3.1)))
unused_from b (Err (errors.Unused at)) h n s = inr (one_stop b at n (stops_at b false h.0 at h.1 h.2).1 s.1)
unused_from b (Err (errors.TooDeep at)) h n s = absurd (other_stop b n at s (stops_at b true h.0 at h.1 h.2))
unused_from b (Err errors.Memory) h n s = inl tt

deep_to : (b : List ℕ) (res : Decoded) → Decodes b res → (n : ℕ) → IsTooDeepAt res n → Stops true n b
deep_to b (Ok x) h n s = absurd s
deep_to b (Err errors.Short) h n s = absurd s
deep_to b (Err (errors.Unused at)) h n s = absurd s
deep_to b (Err (errors.TooDeep at)) h n s = stops_at b true h.0 n h.1 (omega (arith, s, h.2))
deep_to b (Err errors.Memory) h n s = absurd s

deep_from : (b : List ℕ) (res : Decoded) → Decodes b res → (n : ℕ) → Stops true n b → IsMemory res ⊎ IsTooDeepAt res n
deep_from b (Ok x) h n s = absurd (s.0 (val_of x.0) x.1 (ok_front b (val_of x.0) x.1 h.0 h.1 h.2))
deep_from b (Err errors.Short) h n s = absurd (no_stop b true n s (let g = r.short b h in (g.0, g.1, g.2, g.3.0, g.3.1)))
deep_from b (Err (errors.Unused at)) h n s = absurd (other_stop b at n (stops_at b false h.0 at h.1 h.2) s)
deep_from b (Err (errors.TooDeep at)) h n s = inr (one_stop b at n (stops_at b true h.0 at h.1 h.2).1 s.1)
deep_from b (Err errors.Memory) h n s = inl tt

by : (P Q : Form → Type 0) → ((f : Form) → P f → Q f) → (n : ℕ) (b : List ℕ) → FailsAtForm P n b → FailsAtForm Q n b
by P Q f n b h = (h.0, h.1, h.2, f (form_of (get_or b n 0)) h.3)

pub unused_exactly : (b : List ℕ) (res : Decoded) → Decodes b res → (n : ℕ) → IsMemory res ⊎ (IsUnusedAt res n ↔ FailsAtForm IsUnused n b)
unused_exactly b res h n = exactly res (IsUnusedAt res n) (FailsAtForm IsUnused n b)
    (λ s. by (IsCause false) IsUnused to_unused n b (unused_to b res h n s))
    (λ s. unused_from b res h n (by IsUnused (IsCause false) from_unused n b s))

pub deep_exactly : (b : List ℕ) (res : Decoded) → Decodes b res → (n : ℕ) → IsMemory res ⊎ (IsTooDeepAt res n ↔ FailsAtForm IsListOrMap n b)
deep_exactly b res h n = exactly res (IsTooDeepAt res n) (FailsAtForm IsListOrMap n b)
    (λ s. by (IsCause true) IsListOrMap to_deep n b (deep_to b res h n s))
    (λ s. deep_from b res h n (by IsListOrMap (IsCause true) from_deep n b s))

-- ---- in range

value_fits : (b : List ℕ) (v : Val) (rest : List ℕ) → ((i : ℕ) → get_or b i 0 < 256) → value_at 64 b ≡ Ok (v, rest) → Fits v
value_fits b v rest bytes e =
    let s = r.sound b v rest e in
    encodings_fit v s.0 (bytes_front s.0 rest (all_bytes (s.0 ++ rest) (λ i. subst (λ (t : List ℕ). get_or t i 0 < 256) s.1 (bytes i)))) s.2.0

pub ok_in_range : (b : List ℕ) (res : Decoded) → ((i : ℕ) → get_or b i 0 < 256) → Decodes b res → IfOk res (λ x. IsInRange (val_of x.0))
ok_in_range b (Ok x) bytes h = fits_range (val_of x.0) (value_fits b (val_of x.0) h.0 bytes h.1)
ok_in_range b (Err e) bytes h = tt

pub ok_lengths : (b : List ℕ) (res : Decoded) → ((i : ℕ) → get_or b i 0 < 256) → Decodes b res → IfOk res (λ x. LengthsFit (val_of x.0))
ok_lengths b (Ok x) bytes h = fits_lengths (val_of x.0) (value_fits b (val_of x.0) h.0 bytes h.1)
ok_lengths b (Err e) bytes h = tt
