-- Skipping values byte by byte.
use Rattle.std.proofs.Common.{◌≡◌, ℕ, zero, suc, ◌+◌, ◌-◌, ◌*◌, ◌≤◌, ◌<◌, Bool, true, false, cond, ltb, List, [], ◌∷◌, ◌++◌, length, take, drop, get_or, Result, Ok, Err, refl, sym, ap, ◌∙◌, arith, inl, inr, ◌⊎◌}
use Rattle.std.proofs.lemmas.Bool.{le-ltb, lt-ltb, cases_lt}
use Rattle.std.proofs.lemmas.List.{drop-drop, drop-append-le, length-append, length-drop}
use Rattle.std.specs.Int.{w8, cast_signed}
use Rattle.fwd_value.specs.Val.{Val, list, mapping, vals_of, entries_of}
use Rattle.fwd_msgpack.specs.declared.fault.FormatErr.{FormatErr}
use Rattle.fwd_msgpack.specs.declared.fault.FormatErr.TheVariants.{Short, Unused, TooDeep}
use Rattle.fwd_msgpack.specs.declared.form.ByteWidth.{ByteWidth}
use Rattle.fwd_msgpack.specs.declared.form.ByteWidth.TheVariants as wide
use Rattle.fwd_msgpack.specs.declared.form.Count.{Count}
use Rattle.fwd_msgpack.specs.declared.form.Count.TheVariants as count
use Rattle.fwd_msgpack.specs.declared.form.Form.{Form}
use Rattle.fwd_msgpack.specs.declared.form.Form.TheVariants as form
use Rattle.fwd_msgpack.specs.declared.part.PartialLength.{PartialLength}
use Rattle.fwd_msgpack.specs.declared.part.PartialLength.TheVariants as left
use Rattle.fwd_msgpack.specs.declared.part.Holds.{Holds}
use Rattle.fwd_msgpack.specs.declared.part.Holds.TheVariants as holds
use Rattle.fwd_msgpack.specs.declared.part.Begun.{Begun}
use Rattle.fwd_msgpack.specs.declared.part.Begun.TheVariants as begun
use Rattle.fwd_msgpack.specs.declared.part.Part.{Part}
use Rattle.fwd_msgpack.specs.declared.part.Part.TheVariants as part
use Rattle.fwd_msgpack.specs.Table.{form_of, middle}
use Rattle.fwd_msgpack.specs.Encodings.{number, size}
use Rattle.fwd_msgpack.specs.Decoder.{◌>>=◌, Read, number_at, bytes_at, byte_at, count_at, counted_at, many_at, entries_at, list_at, map_at, after, inner, value_by, value_at}
use Rattle.fwd_msgpack.specs.Levels.{MissesOne, one_less, closed}
use Rattle.fwd_msgpack.specs.Continuations.{IsShortCount, IsTabled, continuation_of_count, continuation_of}
use Rattle.fwd_msgpack.specs.ScanState.{Skipped, skip_value, skip_values, skip_levels, behind, after_length, complete_length, from_part, may_open, IsWanting}
use Rattle.fwd_msgpack.proofs.DecodeLoops.{list_none, map_none, list_in, map_in}
use Rattle.fwd_msgpack.proofs.Decoders.{front_reads}

-- ---- steps that may fail

pub bind_assoc : {A B C : Type 0} (r : Result A FormatErr) (f : A → Result B FormatErr) (g : B → Result C FormatErr) → ((r >>= f) >>= g) ≡ (r >>= λ x. f x >>= g)
bind_assoc (Ok x) f g = refl
bind_assoc (Err e) f g = refl

pub bind_same : {A B : Type 0} (r : Result A FormatErr) (f g : A → Result B FormatErr) → ((x : A) → f x ≡ g x) → (r >>= f) ≡ (r >>= g)
bind_same (Ok x) f g h = h x
bind_same (Err e) f g h = refl

-- the outcome without the decoded value
abbrev pub rest : {A : Type 0} → Read A → Skipped
rest r = r >>= λ x. Ok x.1

-- ---- values one after another

many_one : (y : Val) (r : Read (List Val)) → rest (r >>= λ vs. Ok (y ∷ vs.0, vs.1)) ≡ rest r
many_one y (Ok vs) = refl
many_one y (Err e) = refl

many_step : (d n : ℕ) → ((b : List ℕ) → rest (many_at (value_at d) n b) ≡ skip_values d n b) → (r : Read Val) → rest (r >>= λ v. many_at (value_at d) n v.1 >>= λ vs. Ok (v.0 ∷ vs.0, vs.1)) ≡ (rest r >>= skip_values d n)
many_step d n more (Ok v) = many_one v.0 (many_at (value_at d) n v.1) ∙ more v.1
many_step d n more (Err e) = refl

pub many_passes : (d n : ℕ) (b : List ℕ) → rest (many_at (value_at d) n b) ≡ skip_values d n b
unfolding many_at skip_values
many_passes d zero b = refl
many_passes d (suc n) b = many_step d n (many_passes d n) (value_at d b)

entries_one : (y : Val × Val) (r : Read (List (Val × Val))) → rest (r >>= λ es. Ok (y ∷ es.0, es.1)) ≡ rest r
entries_one y (Ok es) = refl
entries_one y (Err e) = refl

worth_step : (d n : ℕ) → ((b : List ℕ) → rest (entries_at (value_at d) n b) ≡ skip_values d (2 * n) b) → (k : Val) (r : Read Val) → rest (r >>= λ v. entries_at (value_at d) n v.1 >>= λ es. Ok ((k, v.0) ∷ es.0, es.1)) ≡ (rest r >>= skip_values d (2 * n))
worth_step d n more k (Ok v) = entries_one (k, v.0) (entries_at (value_at d) n v.1) ∙ more v.1
worth_step d n more k (Err e) = refl

key_step : (d n : ℕ) → ((b : List ℕ) → rest (entries_at (value_at d) n b) ≡ skip_values d (2 * n) b) → (r : Read Val) → rest (r >>= λ k. value_at d k.1 >>= λ v. entries_at (value_at d) n v.1 >>= λ es. Ok ((k.0, v.0) ∷ es.0, es.1)) ≡ (rest r >>= skip_values d (suc (2 * n)))
unfolding skip_values
key_step d n more (Ok k) = worth_step d n more k.0 (value_at d k.1)
key_step d n more (Err e) = refl

pub entries_pass : (d n : ℕ) (b : List ℕ) → rest (entries_at (value_at d) n b) ≡ skip_values d (2 * n) b
unfolding entries_at skip_values
entries_pass d zero b = refl
entries_pass d (suc n) b =
    let e : suc (suc (2 * n)) ≡ 2 * suc n = omega arith in
    key_step d n (entries_pass d n) (value_at d b) ∙ ap (λ (i : ℕ). skip_values d i b) e

-- ---- n bytes

pub behind_none : (ns b : List ℕ) → behind 0 ns b ≡ skip_levels ns b
unfolding behind
behind_none ns b = let e : ltb (length b) 0 ≡ false = le-ltb _ _ (omega arith) in rw e refl

pub behind_more : (n k : ℕ) (ns x more : List ℕ) → k ≤ n → k ≤ length x → behind (n - k) ns (drop k x ++ more) ≡ behind n ns (x ++ more)
unfolding behind
behind_more n k ns x more le fits =
    let size : length (drop k x ++ more) ≡ length (x ++ more) - k = omega (arith, length-append (drop k x) more, length-drop k x, length-append x more) in
    let long = length-append x more in
    let all : drop (n - k) (drop k x ++ more) ≡ drop n (x ++ more) =
    ap (drop (n - k)) (sym (drop-append-le k x more fits)) ∙ drop-drop (n - k) k (x ++ more) ∙ (let e : k + (n - k) ≡ n = omega arith in ap (λ (i : ℕ). drop i (x ++ more)) e) in
    elim (cases_lt (length (x ++ more)) n) [
      | inl lt ↦
          let one : ltb (length (drop k x ++ more)) (n - k) ≡ true = lt-ltb _ _ (omega (arith, size, lt, long)) in
          let two : ltb (length (x ++ more)) n ≡ true = lt-ltb _ _ lt in
          rw (one, two) refl
      | inr ge ↦
          let one : ltb (length (drop k x ++ more)) (n - k) ≡ false = le-ltb _ _ (omega (arith, size, ge)) in
          let two : ltb (length (x ++ more)) n ≡ false = le-ltb _ _ ge in
          rw (one, two, all) refl
    ]

cut_passed : {A : Type 0} (t : Bool) (x : A) (b ns : List ℕ) → (rest (cond t (Err Short) (Ok (x, b))) >>= skip_levels ns) ≡ cond t (Err Short) (skip_levels ns b)
cut_passed true x b ns = refl
cut_passed false x b ns = refl

number_rest : (w : ByteWidth) (b : List ℕ) (f : ℕ → Val) → rest (number_at w b >>= λ n. Ok (f n.0, n.1)) ≡ rest (number_at w b)
number_rest w b f = made_rest (number_at w b)
  where
    made_rest : (r : Read ℕ) → rest (r >>= λ n. Ok (f n.0, n.1)) ≡ rest r
    made_rest (Ok n) = refl
    made_rest (Err e) = refl

number_passed : (w : ByteWidth) (f : ℕ → Val) (ns b : List ℕ) → (rest (number_at w b >>= λ n. Ok (f n.0, n.1)) >>= skip_levels ns) ≡ behind (size w) ns b
unfolding number_at behind
number_passed w f ns b = ap (λ (r : Skipped). r >>= skip_levels ns) (number_rest w b f) ∙ cut_passed (ltb (length b) (size w)) (number w (take (size w) b)) (drop (size w) b) ns

bytes_passed : (n : ℕ) (ns b : List ℕ) → (rest (bytes_at n b) >>= skip_levels ns) ≡ behind n ns b
unfolding bytes_at behind
bytes_passed n ns b = cut_passed (ltb (length b) n) (take n b) (drop n b) ns

suc_lt : (m n : ℕ) → ltb (suc m) (n + 1) ≡ ltb m n
suc_lt m n = elim (cases_lt m n) [
  | inl lt ↦ lt-ltb _ _ (omega arith) ∙ sym (lt-ltb _ _ lt)
  | inr ge ↦ le-ltb _ _ (omega arith) ∙ sym (le-ltb _ _ ge)
]

typed_passed : (n : ℕ) (ns b : List ℕ) → (rest (byte_at b >>= λ t. bytes_at n t.1) >>= skip_levels ns) ≡ behind (n + 1) ns b
unfolding byte_at bytes_at behind
typed_passed n ns [] = let e : ltb 0 (n + 1) ≡ true = lt-ltb _ _ (omega arith) in rw e refl
typed_passed n ns (t ∷ b) =
    let e : n + 1 ≡ suc n = omega arith in
    let left : drop (n + 1) (t ∷ b) ≡ drop n b = ap (λ (i : ℕ). drop i (t ∷ b)) e in
    rw (suc_lt (length b) n, left) (cut_passed (ltb (length b) n) (take n b) (drop n b) ns)

-- ---- lengths

front_number : (w : ByteWidth) (front b : List ℕ) → length front ≡ size w → number_at w (front ++ b) ≡ Ok (number w front, b)
unfolding number_at
front_number w front b e = (front_reads (size w) (number w)).whole (number w front) front b (e, refl)

short_number : (w : ByteWidth) (b : List ℕ) → length b < size w → number_at w b ≡ Err Short
unfolding number_at
short_number w b lt = let e : ltb (length b) (size w) ≡ true = lt-ltb _ _ lt in rw e refl

one_on : (b : List ℕ) → number_at wide.One b ≡ complete_length (left.One 0 0) b
unfolding complete_length number size
one_on [] = short_number wide.One [] (omega arith)
one_on (c ∷ b) = front_number wide.One (c ∷ []) b (omega arith) ∙ ap (λ (n : ℕ). Ok (n, b)) (omega arith)

two_on : (b : List ℕ) → number_at wide.Two b ≡ complete_length (left.Two 0) b
unfolding complete_length number size
two_on [] = short_number wide.Two [] (omega arith)
two_on (c ∷ []) = short_number wide.Two (c ∷ []) (omega arith)
two_on (c ∷ (d ∷ b)) = front_number wide.Two (c ∷ d ∷ []) b (omega arith) ∙ ap (λ (n : ℕ). Ok (n, b)) (omega arith)

four_on : (b : List ℕ) → number_at wide.Four b ≡ complete_length left.Four b
unfolding complete_length number size
four_on [] = short_number wide.Four [] (omega arith)
four_on (c ∷ []) = short_number wide.Four (c ∷ []) (omega arith)
four_on (c ∷ (d ∷ [])) = short_number wide.Four (c ∷ d ∷ []) (omega arith)
four_on (c ∷ (d ∷ (e ∷ []))) = short_number wide.Four (c ∷ d ∷ e ∷ []) (omega arith)
four_on (c ∷ (d ∷ (e ∷ (f ∷ b)))) = front_number wide.Four (c ∷ d ∷ e ∷ f ∷ []) b (omega arith) ∙ ap (λ (n : ℕ). Ok (n, b)) (omega arith)

-- ---- after a first byte

-- the outcome of what follows a first byte
abbrev pub from_begun : Begun → List ℕ → List ℕ → Skipped
from_begun begun.Unused ns b = Err (Unused (length b + 1))
from_begun (begun.Bytes n) ns b = behind n ns b
from_begun (begun.Known n h) ns b = cond (may_open h ns) (after_length h n ns b) (Err (TooDeep (length b + 1)))
from_begun (begun.Sized l h) ns b = cond (may_open h ns) (from_part (part.Length l h) ns b) (Err (TooDeep (length b + 1)))

count_follows : (k : Count) (h : Holds) (ns b : List ℕ) → IsShortCount k → cond (may_open h ns) (count_at k b >>= λ n. after_length h n.0 ns n.1) (Err (TooDeep (length b + 1))) ≡ from_begun (continuation_of_count k h) ns b
unfolding count_at
count_follows (count.Known n) h ns b t = refl
count_follows (count.Sized wide.One) h ns b t = rw (one_on b) refl
count_follows (count.Sized wide.Two) h ns b t = rw (two_on b) refl
count_follows (count.Sized wide.Four) h ns b t = rw (four_on b) refl
count_follows (count.Sized wide.Eight) h ns b t = absurd t

text_follows : (k : Count) (f : List ℕ → Val) (ns b : List ℕ) → IsShortCount k → (rest (counted_at k b >>= λ s. Ok (f s.0, s.1)) >>= skip_levels ns) ≡ from_begun (continuation_of_count k holds.Bytes) ns b
unfolding counted_at
text_follows k f ns b t = step (count_at k b) ∙ count_follows k holds.Bytes ns b t
  where
    made : (r : Read (List ℕ)) → rest (r >>= λ s. Ok (f s.0, s.1)) ≡ rest r
    made (Ok s) = refl
    made (Err e) = refl

    step : (r : Read ℕ) → (rest ((r >>= λ n. bytes_at n.0 n.1) >>= λ s. Ok (f s.0, s.1)) >>= skip_levels ns) ≡ (r >>= λ n. behind n.0 ns n.1)
    step (Ok n) = ap (λ (p : Skipped). p >>= skip_levels ns) (made (bytes_at n.0 n.1)) ∙ bytes_passed n.0 ns n.1
    step (Err e) = refl

ext_follows : (k : Count) (f : ℕ → List ℕ → Val) (ns b : List ℕ) → IsShortCount k → (rest (count_at k b >>= λ n. byte_at n.1 >>= λ t. bytes_at n.0 t.1 >>= λ s. Ok (f t.0 s.0, s.1)) >>= skip_levels ns) ≡ from_begun (continuation_of_count k holds.Typed) ns b
ext_follows k f ns b t = step (count_at k b) ∙ count_follows k holds.Typed ns b t
  where
    made : (c : ℕ) (r : Read (List ℕ)) → rest (r >>= λ s. Ok (f c s.0, s.1)) ≡ rest r
    made c (Ok s) = refl
    made c (Err e) = refl

    typed : (n : ℕ) (r : Read ℕ) → rest (r >>= λ t. bytes_at n t.1 >>= λ s. Ok (f t.0 s.0, s.1)) ≡ rest (r >>= λ t. bytes_at n t.1)
    typed n (Ok t) = made t.0 (bytes_at n t.1)
    typed n (Err e) = refl

    step : (r : Read ℕ) → (rest (r >>= λ n. byte_at n.1 >>= λ t. bytes_at n.0 t.1 >>= λ s. Ok (f t.0 s.0, s.1)) >>= skip_levels ns) ≡ (r >>= λ n. behind (n.0 + 1) ns n.1)
    step (Ok n) = ap (λ (p : Skipped). p >>= skip_levels ns) (typed n.0 (byte_at n.1)) ∙ typed_passed n.0 ns n.1
    step (Err e) = refl

list_rest : (d : ℕ) (k : Count) (ns b : List ℕ) → d ≡ 64 - length ns → (rest (list_at (value_at d) k b) >>= skip_levels ns) ≡ (count_at k b >>= λ n. skip_levels (n.0 ∷ ns) n.1)
unfolding skip_levels
list_rest d k ns b e = step (count_at k b)
  where
    made : (r : Read (List Val)) → rest (r >>= λ vs. Ok (list (vals_of vs.0), vs.1)) ≡ rest r
    made (Ok vs) = refl
    made (Err x) = refl

    step : (r : Read ℕ) → (rest (r >>= λ n. many_at (value_at d) n.0 n.1 >>= λ vs. Ok (list (vals_of vs.0), vs.1)) >>= skip_levels ns) ≡ (r >>= λ n. skip_levels (n.0 ∷ ns) n.1)
    step (Ok n) = ap (λ (p : Skipped). p >>= skip_levels ns) (made (many_at (value_at d) n.0 n.1) ∙ many_passes d n.0 n.1 ∙ ap (λ (i : ℕ). skip_values i n.0 n.1) e)
    step (Err x) = refl

map_rest : (d : ℕ) (k : Count) (ns b : List ℕ) → d ≡ 64 - length ns → (rest (map_at (value_at d) k b) >>= skip_levels ns) ≡ (count_at k b >>= λ n. skip_levels (2 * n.0 ∷ ns) n.1)
unfolding skip_levels
map_rest d k ns b e = step (count_at k b)
  where
    made : (r : Read (List (Val × Val))) → rest (r >>= λ es. Ok (mapping (entries_of es.0), es.1)) ≡ rest r
    made (Ok es) = refl
    made (Err x) = refl

    step : (r : Read ℕ) → (rest (r >>= λ n. entries_at (value_at d) n.0 n.1 >>= λ es. Ok (mapping (entries_of es.0), es.1)) >>= skip_levels ns) ≡ (r >>= λ n. skip_levels (2 * n.0 ∷ ns) n.1)
    step (Ok n) = ap (λ (p : Skipped). p >>= skip_levels ns) (made (entries_at (value_at d) n.0 n.1) ∙ entries_pass d n.0 n.1 ∙ ap (λ (i : ℕ). skip_values i (2 * n.0) n.1) e)
    step (Err x) = refl

list_follows : (d : ℕ) (k : Count) (ns b : List ℕ) → d ≡ 65 - length ns → IsShortCount k → (rest (after (inner d) (form.Array k) b) >>= skip_levels ns) ≡ from_begun (continuation_of_count k holds.Values) ns b
list_follows d k ns b e t = elim (cases_lt (length ns) 65) [
  | inl lt ↦
      let room : ltb (length ns) 65 ≡ true = lt-ltb _ _ lt in
      let same : (count_at k b >>= λ n. skip_levels (n.0 ∷ ns) n.1) ≡ from_begun (continuation_of_count k holds.Values) ns b = (rw room refl) ∙ count_follows k holds.Values ns b t in
      ap (λ (r : Read Val). rest r >>= skip_levels ns) (list_in d k b (omega (arith, e, lt))) ∙ list_rest (d - 1) k ns b (omega (arith, e, lt)) ∙ same
  | inr ge ↦
      let room : ltb (length ns) 65 ≡ false = le-ltb _ _ ge in
      let same : Err (TooDeep (length b + 1)) ≡ from_begun (continuation_of_count k holds.Values) ns b = (rw room refl) ∙ count_follows k holds.Values ns b t in
      ap (λ (r : Read Val). rest r >>= skip_levels ns) (list_none d k b (omega (arith, e, ge))) ∙ same
]

map_follows : (d : ℕ) (k : Count) (ns b : List ℕ) → d ≡ 65 - length ns → IsShortCount k → (rest (after (inner d) (form.Map k) b) >>= skip_levels ns) ≡ from_begun (continuation_of_count k holds.Pairs) ns b
map_follows d k ns b e t = elim (cases_lt (length ns) 65) [
  | inl lt ↦
      let room : ltb (length ns) 65 ≡ true = lt-ltb _ _ lt in
      let same : (count_at k b >>= λ n. skip_levels (2 * n.0 ∷ ns) n.1) ≡ from_begun (continuation_of_count k holds.Pairs) ns b = (rw room refl) ∙ count_follows k holds.Pairs ns b t in
      ap (λ (r : Read Val). rest r >>= skip_levels ns) (map_in d k b (omega (arith, e, lt))) ∙ map_rest (d - 1) k ns b (omega (arith, e, lt)) ∙ same
  | inr ge ↦
      let room : ltb (length ns) 65 ≡ false = le-ltb _ _ ge in
      let same : Err (TooDeep (length b + 1)) ≡ from_begun (continuation_of_count k holds.Pairs) ns b = (rw room refl) ∙ count_follows k holds.Pairs ns b t in
      ap (λ (r : Read Val). rest r >>= skip_levels ns) (map_none d k b (omega (arith, e, ge))) ∙ same
]

form_follows : (d : ℕ) (f : Form) (ns b : List ℕ) → d ≡ 65 - length ns → IsTabled f → (rest (after (inner d) f b) >>= skip_levels ns) ≡ from_begun (continuation_of f) ns b
unfolding after size
form_follows d form.Unused ns b e t = refl
form_follows d form.Nil ns b e t = sym (behind_none ns b)
form_follows d (form.Bool u) ns b e t = sym (behind_none ns b)
form_follows d (form.PositiveFixint n) ns b e t = sym (behind_none ns b)
form_follows d (form.NegativeFixint z) ns b e t = sym (behind_none ns b)
form_follows d (form.Uint w) ns b e t = number_passed w _ ns b
form_follows d (form.Int w) ns b e t = number_passed w _ ns b
form_follows d form.Float32 ns b e t = number_passed wide.Four _ ns b
form_follows d form.Float64 ns b e t = number_passed wide.Eight _ ns b
form_follows d (form.Str k) ns b e t = text_follows k _ ns b t
form_follows d (form.Bin k) ns b e t = text_follows k _ ns b t
form_follows d (form.Ext k) ns b e t = ext_follows k _ ns b t
form_follows d (form.Array k) ns b e t = list_follows d k ns b e t
form_follows d (form.Map k) ns b e t = map_follows d k ns b e t

-- the forms of the table
abbrev AllTabled : List Form → Type 0
AllTabled [] = Unit {0}
AllTabled (f ∷ fs) = IsTabled f × AllTabled fs

tabled_at : (fs : List Form) (i : ℕ) → AllTabled fs → IsTabled (get_or fs i form.Unused)
tabled_at [] i h = tt
tabled_at (f ∷ fs) zero h = h.0
tabled_at (f ∷ fs) (suc i) h = tabled_at fs i h.1

all_tabled : AllTabled middle
all_tabled = (tt, (tt, (tt, (tt, (tt, (tt, (tt, (tt, (tt, (tt, (tt, (tt, (tt, (tt, (tt, (tt, (tt, (tt, (tt, (tt, (tt, (tt, (tt, (tt, (tt, (tt, (tt, (tt, (tt, (tt, (tt, (tt, tt))))))))))))))))))))))))))))))))

by_test : (t : Bool) (f g : Form) → IsTabled f → IsTabled g → IsTabled (cond t f g)
by_test true f g x y = x
by_test false f g x y = y

pub is_tabled : (c : ℕ) → IsTabled (form_of c)
unfolding form_of
is_tabled c =
    let last : Form = cond (ltb c 224) (get_or middle (c - 192) form.Unused) (form.NegativeFixint (cast_signed w8 c)) in
    let text : Form = cond (ltb c 192) (form.Str (count.Known (c - 160))) last in
    let array : Form = cond (ltb c 160) (form.Array (count.Known (c - 144))) text in
    let mapping : Form = cond (ltb c 144) (form.Map (count.Known (c - 128))) array in
    let h_last : IsTabled last = by_test (ltb c 224) (get_or middle (c - 192) form.Unused) (form.NegativeFixint (cast_signed w8 c)) (tabled_at middle (c - 192) all_tabled) tt in
    let h_text : IsTabled text = by_test (ltb c 192) (form.Str (count.Known (c - 160))) last tt h_last in
    let h_array : IsTabled array = by_test (ltb c 160) (form.Array (count.Known (c - 144))) text tt h_text in
    let h_mapping : IsTabled mapping = by_test (ltb c 144) (form.Map (count.Known (c - 128))) array tt h_array in
    by_test (ltb c 128) (form.PositiveFixint c) mapping tt h_mapping

-- a first byte, if the innermost level misses a value
pub first_passed : (ns : List ℕ) (c : ℕ) (b : List ℕ) → MissesOne ns → skip_levels ns (c ∷ b) ≡ from_begun (continuation_of (form_of c)) (one_less ns) b
unfolding skip_levels skip_values value_by
first_passed [] c b w = absurd w
first_passed (zero ∷ ns) c b w = absurd w
first_passed (suc n ∷ ns) c b w =
    let d = 64 - length ns in
    bind_assoc (skip_value d (c ∷ b)) (skip_values d n) (skip_levels ns) ∙ form_follows d (form_of c) (n ∷ ns) b (omega arith) (is_tabled c)

-- the step of a scanner at a first byte, after it continuation_of_count one value at the innermost level
module _ (ns os : List ℕ) (c : ℕ) (b : List ℕ) (want : MissesOne ns) (taken : os ≡ one_less ns) where
  first_is : (w : Begun) → continuation_of (form_of c) ≡ w → from_begun w os b ≡ skip_levels ns (c ∷ b)
  first_is w is = sym (first_passed ns c b want ∙ ap (λ (v : Begun). from_begun v (one_less ns) b) is ∙ ap (λ (t : List ℕ). from_begun w t b) (sym taken))

  pub unused_first : continuation_of (form_of c) ≡ begun.Unused → Err (Unused (length b + 1)) ≡ skip_levels ns (c ∷ b)
  unused_first is = first_is begun.Unused is

  pub bytes_first : (n : ℕ) → continuation_of (form_of c) ≡ begun.Bytes n → behind n os b ≡ skip_levels ns (c ∷ b)
  bytes_first n is = first_is (begun.Bytes n) is

  pub known_first : (n : ℕ) (h : Holds) → continuation_of (form_of c) ≡ begun.Known n h → may_open h os ≡ true → after_length h n os b ≡ skip_levels ns (c ∷ b)
  known_first n h is room =
      let same : after_length h n os b ≡ from_begun (begun.Known n h) os b = rw room refl in
      same ∙ first_is (begun.Known n h) is

  pub deep_known : (n : ℕ) (h : Holds) → continuation_of (form_of c) ≡ begun.Known n h → may_open h os ≡ false → Err (TooDeep (length b + 1)) ≡ skip_levels ns (c ∷ b)
  deep_known n h is room =
      let same : Err (TooDeep (length b + 1)) ≡ from_begun (begun.Known n h) os b = rw room refl in
      same ∙ first_is (begun.Known n h) is

  pub sized_first : (l : PartialLength) (h : Holds) → continuation_of (form_of c) ≡ begun.Sized l h → may_open h os ≡ true → from_part (part.Length l h) os b ≡ skip_levels ns (c ∷ b)
  sized_first l h is room =
      let same : from_part (part.Length l h) os b ≡ from_begun (begun.Sized l h) os b = rw room refl in
      same ∙ first_is (begun.Sized l h) is

  pub deep_sized : (l : PartialLength) (h : Holds) → continuation_of (form_of c) ≡ begun.Sized l h → may_open h os ≡ false → Err (TooDeep (length b + 1)) ≡ skip_levels ns (c ∷ b)
  deep_sized l h is room =
      let same : Err (TooDeep (length b + 1)) ≡ from_begun (begun.Sized l h) os b = rw room refl in
      same ∙ first_is (begun.Sized l h) is

-- ---- the end of a value

pub closed_same : (ns b : List ℕ) → skip_levels (closed ns) b ≡ skip_levels ns b
unfolding skip_levels skip_values
closed_same [] b = refl
closed_same (zero ∷ ns) b = closed_same ns b
closed_same (suc n ∷ ns) b = refl

pub closed_wants : (ns : List ℕ) → (closed ns ≡ []) ⊎ MissesOne (closed ns)
closed_wants [] = inl refl
closed_wants (zero ∷ ns) = closed_wants ns
closed_wants (suc n ∷ ns) = inr tt

pub none_passed : (b : List ℕ) → skip_levels [] b ≡ Ok b
unfolding skip_levels
none_passed b = refl

-- bytes are missing and none come
pub wants_more : (p : Part) (ns : List ℕ) → IsWanting p ns → from_part p ns [] ≡ Err Short
unfolding skip_levels skip_values value_by behind complete_length
wants_more part.First [] w = absurd w
wants_more part.First (zero ∷ ns) w = absurd w
wants_more part.First (suc n ∷ ns) w = refl
wants_more (part.Skip n) ns w = let e : ltb 0 n ≡ true = lt-ltb _ _ w in rw e refl
wants_more (part.Length l h) ns w = refl

-- one value is missing at first
one_wanted : (r : Skipped) → r ≡ ((r >>= skip_values 64 0) >>= skip_levels [])
unfolding skip_values skip_levels
one_wanted (Ok b) = refl
one_wanted (Err e) = refl

pub first_of_all : (b : List ℕ) → skip_value 64 b ≡ skip_levels (1 ∷ []) b
unfolding skip_values skip_levels
first_of_all b = one_wanted (skip_value 64 b)
