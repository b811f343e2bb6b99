-- What more bytes leave unchanged: whole messages, and what breaks a stream.
use Rattle.std.proofs.Common.{◌≡◌, ℕ, ◌+◌, ◌≤◌, Bool, true, false, List, ◌∷◌, ◌++◌, length, take, drop, Err, refl, sym, ap, subst, ◌∙◌, append_assoc, arith, inl, inr}
use Rattle.std.proofs.lemmas.List.{take-take, take-append-le, take_all, length-take, length-append, take-append-drop}
use Rattle.fwd_base.specs.Limits.{longest_message}
use Rattle.fwd_msgpack.specs.declared.errors.DecodeErr.TheVariants as errors
use Rattle.fwd_msgpack.specs.Decoder.{value_at}
use Rattle.fwd_msgpack.specs.DecodeAnswers.{IsProperPrefix, FailsAtForm, IsUnused, IsListOrMap}
use Rattle.fwd_msgpack.proofs.Decoders.{stop}
use Rattle.fwd_msgpack.proofs.Grammar.{reads}
use Rattle.fwd_msgpack.proofs.AnswerMeanings.{unused_exactly, deep_exactly}
use Rattle.fwd_wire.proofs.Stops.{unused_read, deep_read}
use Rattle.fwd_wire.specs.Message.{Verdict, compressed, no_message}
use Rattle.fwd_wire.specs.Answer.{front, FrontSays, IsAnswer, not_a_message}
use Rattle.fwd_wire.specs.declared.fault.ConnFault.{ConnFault}
use Rattle.fwd_wire.specs.declared.fault.ConnFault.TheVariants.{NotAMessage, Compressed, TooLong}
use Rattle.fwd_wire.specs.Stream.{Breaks}

-- the first bytes of a front don't change
same_front : (n : ℕ) (b more : List ℕ) → n ≤ length (front b) → take n (front (b ++ more)) ≡ take n (front b)
same_front n b more le =
    let size = length-take longest_message b in
    take-take n longest_message (b ++ more) (omega (arith, size, le)) ∙ take-append-le n b more (omega (arith, size, le)) ∙ sym (take-take n longest_message b (omega (arith, size, le)))

front_longer : (b more : List ℕ) → length (front b) ≤ length (front (b ++ more))
front_longer b more = omega (arith, length-take longest_message b, length-take longest_message (b ++ more), length-append b more)

pub says_on : (b more : List ℕ) (n : ℕ) (v : Verdict) → FrontSays b n v → FrontSays (b ++ more) n v
says_on b more n v h =
    let s = h.1 in
    let long = front_longer b more in
    (h.0, (omega (arith, long, s.0), rw (same_front n b more s.0) s.1, s.2), h.2)

-- the position of a stop, and what the same bytes with more after them give
grown : (k : Bool) (f more : List ℕ) (at left : ℕ) → value_at 64 f ≡ Err (stop k left) → at + left ≡ length f → (more_left : ℕ) × (value_at 64 (f ++ more) ≡ Err (stop k more_left)) × (at + more_left ≡ length (f ++ more))
grown k f more at left e place =
    let t = (reads 64).stops k f left e in
    let parts : f ++ more ≡ t.front ++ t.byte ∷ (t.rest ++ more) = ap (λ (x : List ℕ). x ++ more) t.parts ∙ append_assoc t.front (t.byte ∷ t.rest) more in
    let size : length f ≡ length t.front + (length t.rest + 1) = omega (arith, ap length t.parts, length-append t.front (t.byte ∷ t.rest)) in
    (length (t.rest ++ more) + 1, ap (value_at 64) parts ∙ t.always (t.rest ++ more), omega (arith, place, size, t.left_is, length-append f more, length-append t.rest more))

unused_on : (f more : List ℕ) (at : ℕ) → FailsAtForm IsUnused at f → FailsAtForm IsUnused at (f ++ more)
unused_on f more at s =
    let h = unused_read f at s in
    let g = grown false f more at h.0 h.1 h.2 in
    elim (unused_exactly (f ++ more) (Err (errors.Unused at)) (g.0, g.1, g.2) at) [ inl m ↦ absurd m | inr k ↦ k.0 refl ]

deep_on : (f more : List ℕ) (at : ℕ) → FailsAtForm IsListOrMap at f → FailsAtForm IsListOrMap at (f ++ more)
deep_on f more at s =
    let h = deep_read f at s in
    let g = grown true f more at h.0 h.1 h.2 in
    elim (deep_exactly (f ++ more) (Err (errors.TooDeep at)) (g.0, g.1, g.2) at) [ inl m ↦ absurd m | inr k ↦ k.0 refl ]

-- a longer front is a front with more after it
front_parts : (b more : List ℕ) → (behind : List ℕ) × (front (b ++ more) ≡ front b ++ behind)
front_parts b more =
    let k = length (front b) in
    let whole : front b ≡ take k (front b) = sym (take_all k (front b) (omega arith)) in
    (drop k (front (b ++ more)), sym (ap (λ (x : List ℕ). x ++ drop k (front (b ++ more))) (whole ∙ sym (same_front k b more (omega arith))) ∙ take-append-drop k (front (b ++ more))))

refused_on : (b more : List ℕ) (i : ℕ) → IsAnswer b (not_a_message i) → IsAnswer (b ++ more) (not_a_message i)
refused_on b more i (inl x) = inl (x.0, says_on b more x.0 no_message x.1, x.2)
refused_on b more i (inr (inl s)) = let p = front_parts b more in inr (inl (subst (FailsAtForm IsUnused i) (sym p.1) (unused_on (front b) p.0 i s)))
refused_on b more i (inr (inr s)) = let p = front_parts b more in inr (inr (subst (FailsAtForm IsListOrMap i) (sym p.1) (deep_on (front b) p.0 i s)))

pub breaks_on : (fault : ConnFault) (b more : List ℕ) → Breaks fault b → Breaks fault (b ++ more)
breaks_on NotAMessage b more h = (h.0, refused_on b more h.0 h.1)
breaks_on Compressed b more h = (h.0, says_on b more h.0 compressed h.1)
breaks_on TooLong b more h =
    let same : front (b ++ more) ≡ front b = take-append-le longest_message b more h.0 in
    (omega (arith, h.0, length-append b more), subst IsProperPrefix (sym same) h.1)
