-- What each answer of a scanner means for the bytes.
use Rattle.std.proofs.Common.{◌≡◌, ℕ, ◌+◌, ◌-◌, ◌↔◌, List, [], ◌++◌, length, take, drop, Ok, Err, refl, sym, ap, subst, ◌∙◌, append_assoc, arith, inl, inr}
use Rattle.std.proofs.lemmas.List.{take_at, take-append-drop, length-append, length-take, append-nil, nil_from_length}
use Rattle.fwd_value.specs.Val.{Val}
use Rattle.fwd_msgpack.specs.declared.errors.DecodeErr.TheVariants as errors
use Rattle.fwd_msgpack.specs.declared.fault.FormatErr.{FormatErr}
use Rattle.fwd_msgpack.specs.declared.fault.FormatErr.TheVariants as fault
use Rattle.fwd_msgpack.specs.declared.scan.Scanned.{Scanned}
use Rattle.fwd_msgpack.specs.declared.scan.Scanned.TheVariants.{More, Whole, Unused, TooDeep}
use Rattle.fwd_msgpack.specs.Decoder.{value_at}
use Rattle.fwd_msgpack.specs.DecodeAnswers.{EncodesPrefix, IsProperPrefix, FailsAtForm, IsUnused, IsListOrMap}
use Rattle.fwd_msgpack.specs.declared.part.Step.{Step}
use Rattle.fwd_msgpack.specs.declared.part.Step.TheVariants as step
use Rattle.fwd_msgpack.specs.declared.scan.Scan.{Scan}
use Rattle.fwd_msgpack.proofs.Skipping.{wants_more}
use Rattle.fwd_msgpack.specs.ScanState.{Skipped, skip_value, outcome_of, outcome_after_step, IsFed, IsOpen, TakesAll, Used, scan_answer, HasTaken, IsMore, IsWholeAt, IsUnusedAt, IsTooDeepAt}
use Rattle.fwd_msgpack.proofs.Decoders.{bind_ok, bind_err}
use Rattle.fwd_msgpack.proofs.Grammar.{reads}
use Rattle.fwd_msgpack.proofs.PrefixFree.{encodings_are_prefix_free}
use Rattle.fwd_msgpack.proofs.Exclusive.{prefix_not_value, prefix_not_stop, one_stop, unused_not_deep}
use Rattle.fwd_msgpack.proofs.AnswerMeanings.{short_exactly, unused_exactly as unused_decoded, deep_exactly}

-- skipping the bytes has the outcome of this answer
abbrev pub Answers : List ℕ → Scanned → Type 0
Answers b More = skip_value 64 b ≡ Err fault.Short
Answers b (Whole at) = (left : List ℕ) × (skip_value 64 b ≡ Ok left) × (at + length left ≡ length b)
Answers b (Unused at) = (left : ℕ) × (skip_value 64 b ≡ Err (fault.Unused left)) × (at + left ≡ length b)
Answers b (TooDeep at) = (left : ℕ) × (skip_value 64 b ≡ Err (fault.TooDeep left)) × (at + left ≡ length b)

abbrev fine : List ℕ → Skipped
fine b = Ok b

abbrev wrong : FormatErr → Skipped
wrong f = Err f

same_rest : (a b : List ℕ) → fine a ≡ fine b → a ≡ b
same_rest a b e = cc

not_wrong : (a : List ℕ) (f : FormatErr) → fine a ≡ wrong f → ⊥
not_wrong a f e = cc

pass_ok : (b left : List ℕ) → skip_value 64 b ≡ Ok left → (v : Val) × (value_at 64 b ≡ Ok (v, left))
pass_ok b left e =
    let h = bind_ok (value_at 64 b) (λ x. Ok x.1) left e in
    (h.0.0, h.1 ∙ ap (λ (t : List ℕ). Ok (h.0.0, t)) (same_rest h.0.1 left h.2))

pass_err : (b : List ℕ) (f : FormatErr) → skip_value 64 b ≡ Err f → value_at 64 b ≡ Err f
pass_err b f e = elim (bind_err (value_at 64 b) (λ x. Ok x.1) f e) [
  | inl h ↦ h
  | inr h ↦ absurd (not_wrong h.0.1 f h.2)
]

prefix_of : (b : List ℕ) → skip_value 64 b ≡ Err fault.Short → IsProperPrefix b
prefix_of b e = elim (short_exactly b (Err errors.Short) (pass_err b fault.Short e)) [ inl m ↦ absurd m | inr k ↦ k.0 tt ]

unused_of : (b : List ℕ) (at left : ℕ) → skip_value 64 b ≡ Err (fault.Unused left) → at + left ≡ length b → FailsAtForm IsUnused at b
unused_of b at left e len = elim (unused_decoded b (Err (errors.Unused at)) (left, pass_err b (fault.Unused left) e, len) at) [ inl m ↦ absurd m | inr k ↦ k.0 refl ]

deep_of : (b : List ℕ) (at left : ℕ) → skip_value 64 b ≡ Err (fault.TooDeep left) → at + left ≡ length b → FailsAtForm IsListOrMap at b
deep_of b at left e len = elim (deep_exactly b (Err (errors.TooDeep at)) (left, pass_err b (fault.TooDeep left) e, len) at) [ inl m ↦ absurd m | inr k ↦ k.0 refl ]

front_of : (b : List ℕ) (at : ℕ) (left : List ℕ) → skip_value 64 b ≡ Ok left → at + length left ≡ length b → (v : Val) × EncodesPrefix v at b
front_of b at left e len =
    let h = pass_ok b left e in
    let s = (reads 64).sound b h.0 left h.1 in
    let at-is : length s.0 ≡ at = omega (arith, ap length s.1, length-append s.0 left, len) in
    let front : take at b ≡ s.0 = ap (take at) s.1 ∙ take_at s.0 left at at-is in
    (h.0, (omega (arith, len), rw front s.2.0, s.2.1))

pub one_length : (v w : Val) (m n : ℕ) (b : List ℕ) → EncodesPrefix v m b → EncodesPrefix w n b → m ≡ n
one_length v w m n b p q =
    let same = (encodings_are_prefix_free v w (take m b) (take n b) (drop m b) (drop n b) p.1 q.1 (take-append-drop m b ∙ sym (take-append-drop n b))).1 in
    omega (arith, ap length same, length-take m b, length-take n b, p.0, q.0)

pub more_exactly : (b : List ℕ) (r : Scanned) → Answers b r → IsMore r ↔ IsProperPrefix b
more_exactly b More h = (λ x. prefix_of b h, λ s. tt)
more_exactly b (Whole at) h = let f = front_of b at h.0 h.1 h.2 in (λ x. absurd x, λ s. absurd (prefix_not_value b f.0 at s f.1))
more_exactly b (Unused at) h = (λ x. absurd x, λ s. absurd (prefix_not_stop IsUnused b at s (unused_of b at h.0 h.1 h.2)))
more_exactly b (TooDeep at) h = (λ x. absurd x, λ s. absurd (prefix_not_stop IsListOrMap b at s (deep_of b at h.0 h.1 h.2)))

pub whole_exactly : (b : List ℕ) (r : Scanned) (n : ℕ) → Answers b r → IsWholeAt r n ↔ ((v : Val) × EncodesPrefix v n b)
whole_exactly b More n h = (λ x. absurd x, λ s. absurd (prefix_not_value b s.0 n (prefix_of b h) s.1))
whole_exactly b (Whole at) n h =
    let f = front_of b at h.0 h.1 h.2 in
    (λ e. (f.0, subst (λ (i : ℕ). EncodesPrefix f.0 i b) e f.1), λ s. one_length f.0 s.0 at n b f.1 s.1)
whole_exactly b (Unused at) n h = (λ x. absurd x, λ s. absurd ((unused_of b at h.0 h.1 h.2).0 s.0 n s.1))
whole_exactly b (TooDeep at) n h = (λ x. absurd x, λ s. absurd ((deep_of b at h.0 h.1 h.2).0 s.0 n s.1))

pub unused_exactly : (b : List ℕ) (r : Scanned) (n : ℕ) → Answers b r → IsUnusedAt r n ↔ FailsAtForm IsUnused n b
unused_exactly b More n h = (λ x. absurd x, λ s. absurd (prefix_not_stop IsUnused b n (prefix_of b h) s))
unused_exactly b (Whole at) n h = let f = front_of b at h.0 h.1 h.2 in (λ x. absurd x, λ s. absurd (s.0 f.0 at f.1))
unused_exactly b (Unused at) n h =
    let u = unused_of b at h.0 h.1 h.2 in
    (λ e. subst (λ (i : ℕ). FailsAtForm IsUnused i b) e u, λ s. one_stop b at n u.1 s.1)
unused_exactly b (TooDeep at) n h = (λ x. absurd x, λ s. absurd (unused_not_deep b n at s (deep_of b at h.0 h.1 h.2)))

pub too_deep_exactly : (b : List ℕ) (r : Scanned) (n : ℕ) → Answers b r → IsTooDeepAt r n ↔ FailsAtForm IsListOrMap n b
too_deep_exactly b More n h = (λ x. absurd x, λ s. absurd (prefix_not_stop IsListOrMap b n (prefix_of b h) s))
too_deep_exactly b (Whole at) n h = let f = front_of b at h.0 h.1 h.2 in (λ x. absurd x, λ s. absurd (s.0 f.0 at f.1))
too_deep_exactly b (Unused at) n h = (λ x. absurd x, λ s. absurd (unused_not_deep b at n (unused_of b at h.0 h.1 h.2) s))
too_deep_exactly b (TooDeep at) n h =
    let u = deep_of b at h.0 h.1 h.2 in
    (λ e. subst (λ (i : ℕ). FailsAtForm IsListOrMap i b) e u, λ s. one_stop b at n u.1 s.1)

-- ---- the bytes that were fed, and those taken of the next ones

pub took_one : (s : Step) (all rest seen : ℕ) → Used s all rest → HasTaken s (seen + (all - rest))
took_one step.On all rest seen u = tt
took_one step.Ended all rest seen u = tt
took_one step.Unused all rest seen u = omega (arith, u)
took_one step.TooDeep all rest seen u = omega (arith, u)

module _ (old mid : Scan) (fed bytes left : List ℕ) (f : IsFed old fed) where
  given : (s : Step) → TakesAll old mid bytes left s → skip_value 64 (fed ++ bytes) ≡ outcome_after_step s mid (left ++ [])
  given s t = f.follows bytes ∙ ap (outcome_of old) (sym (append-nil bytes)) ∙ sym (t.same [])

  size : length (fed ++ bytes) ≡ old.seen + length bytes
  size = omega (arith, length-append fed bytes, f.seen)

  pub answers : (s : Step) → TakesAll old mid bytes left s → Answers (fed ++ bytes) (scan_answer s (old.seen + (length bytes - length left)))
  answers step.On t =
      let none : left ≡ [] = nil_from_length left t.used in
      given step.On t ∙ ap (λ (x : List ℕ). outcome_of mid (x ++ [])) none ∙ wants_more mid.part mid.levels t.stays
  answers step.Ended t = (left ++ [], given step.Ended t, omega (arith, size, t.used, length-append left []))
  answers step.Unused t = (length (left ++ []) + 1, given step.Unused t, omega (arith, size, t.used, length-append left []))
  answers step.TooDeep t = (length (left ++ []) + 1, given step.TooDeep t, omega (arith, size, t.used, length-append left []))

  pub fed_on : (s : Step) (n : ℕ) → TakesAll old mid bytes left s → n ≡ old.seen + length bytes → IsMore (scan_answer s (old.seen + (length bytes - length left))) → IsFed (record { levels = mid.levels; part = mid.part; seen = n }) (fed ++ bytes)
  fed_on step.On n t e more =
      let none : left ≡ [] = nil_from_length left t.used in
      record {
        wanting = t.stays;
        seen = omega (arith, size, e);
        follows = λ behind.
            ap (skip_value 64) (append_assoc fed bytes behind) ∙ f.follows (bytes ++ behind) ∙ sym (t.same behind) ∙ ap (λ (x : List ℕ). outcome_of mid (x ++ behind)) none;
      }
  fed_on step.Ended n t e more = absurd more
  fed_on step.Unused n t e more = absurd more
  fed_on step.TooDeep n t e more = absurd more

-- the answer is the outcome of all bytes fed so far
pub got : (old mid : Scan) (fed bytes left : List ℕ) (s : Step) (r : Scanned) → IsFed old fed → TakesAll old mid bytes left s → r ≡ scan_answer s (mid.seen + (length bytes - length left)) → Answers (fed ++ bytes) r
got old mid fed bytes left s r f t e =
    subst (Answers (fed ++ bytes)) (sym (e ∙ ap (λ (n : ℕ). scan_answer s (n + (length bytes - length left))) t.seen)) (answers old mid fed bytes left f s t)

pub got_more : (old mid : Scan) (fed bytes left : List ℕ) (s : Step) (r : Scanned) → IsFed old fed → TakesAll old mid bytes left s → r ≡ scan_answer s (mid.seen + (length bytes - length left)) → IsMore r → IsFed (record { levels = mid.levels; part = mid.part; seen = mid.seen + length bytes }) (fed ++ bytes)
got_more old mid fed bytes left s r f t e more =
    fed_on old mid fed bytes left f s (mid.seen + length bytes) t (omega (arith, t.seen)) (subst IsMore (e ∙ ap (λ (n : ℕ). scan_answer s (n + (length bytes - length left))) t.seen) more)

open_by : (old mid : Scan) (bytes left : List ℕ) (s : Step) (n : ℕ) → TakesAll old mid bytes left s → IsMore (scan_answer s n) → IsOpen mid
open_by old mid bytes left step.On n t more = t.stays
open_by old mid bytes left step.Ended n t more = absurd more
open_by old mid bytes left step.Unused n t more = absurd more
open_by old mid bytes left step.TooDeep n t more = absurd more

pub got_open : (old mid : Scan) (bytes left : List ℕ) (s : Step) (r : Scanned) (n : ℕ) → TakesAll old mid bytes left s → r ≡ scan_answer s n → IsMore r → IsOpen mid
got_open old mid bytes left s r n t e more = open_by old mid bytes left s n t (subst IsMore e more)
