-- What a scan says of a message that continues.
use Rattle.std.proofs.Common.{◌≡◌, ℕ, ◌≤◌, ◌<◌, List, ◌++◌, length, take, drop, min, refl, subst, sym, ap, ◌∙◌, arith, inl, inr, ◌⊎◌, ◌↔◌}
use Rattle.std.proofs.lemmas.List.{take_all, take_min, take-take, take-append-drop}
use Rattle.fwd_base.specs.Limits.{longest_message}
use Rattle.fwd_msgpack.specs.declared.scan.Scan.{Scan}
use Rattle.fwd_msgpack.specs.declared.scan.Scanned.{Scanned}
use Rattle.fwd_msgpack.specs.declared.scan.Scanned.TheVariants.{Unused, TooDeep}
use Rattle.fwd_msgpack.specs.ScanState.{IsFed, IsUnusedAt, IsTooDeepAt}
use Rattle.fwd_msgpack.specs.DecodeAnswers.{IsProperPrefix, FailsAtForm, IsUnused, IsListOrMap}
use Rattle.fwd_wire.specs.Answer.{front, IsAnswer, short}
use Rattle.fwd_wire.specs.declared.fault.ConnFault.TheVariants.{NotAMessage}
use Rattle.fwd_wire.specs.Stream.{Breaks}
use Rattle.fwd_wire.proofs.OneAnswer.{cut_short}

-- the bytes up to an index, and those after it that a message may have
pub front_in_two : (b f piece : List ℕ) (n : ℕ) → n ≤ longest_message → n ≤ length b → f ≡ take (min longest_message (length b)) b → piece ≡ drop n f → take n b ++ piece ≡ front b
front_in_two b f piece n le within is cut =
    let whole : f ≡ front b = is ∙ take_min longest_message b in
    let first : take n b ≡ take n f = sym (ap (take n) whole ∙ take-take n longest_message b le) in
    ap (λ (x : List ℕ). x ++ piece) first ∙ ap (λ (x : List ℕ). take n f ++ x) cut ∙ take-append-drop n f ∙ whole

pub cut_waits : (b f : List ℕ) → f ≡ front b → length b < longest_message → IsProperPrefix f → IsAnswer b short
cut_waits b f is lt p = cut_short b lt (subst IsProperPrefix is p)

pub cut_fed : (s : Scan) (b f : List ℕ) → f ≡ front b → length b < longest_message → IsFed s f → IsFed s b
cut_fed s b f is lt h = subst (IsFed s) (is ∙ take_all longest_message b (omega (arith, lt))) h

-- a byte that no value continues with
pub stops_break : (b f : List ℕ) (r : Scanned) → f ≡ front b → ((x : ℕ) × (r ≡ Unused x)) ⊎ ((x : ℕ) × (r ≡ TooDeep x))
    → ((n : ℕ) → IsUnusedAt r n ↔ FailsAtForm IsUnused n f) → ((n : ℕ) → IsTooDeepAt r n ↔ FailsAtForm IsListOrMap n f) → Breaks NotAMessage b
stops_break b f r is (inl x) unused deep =
    let stop = (unused x.0).0 (subst (λ (s : Scanned). IsUnusedAt s x.0) (sym x.1) refl) in
    (x.0, inr (inl (subst (FailsAtForm IsUnused x.0) is stop)))
stops_break b f r is (inr x) unused deep =
    let stop = (deep x.0).0 (subst (λ (s : Scanned). IsTooDeepAt s x.0) (sym x.1) refl) in
    (x.0, inr (inr (subst (FailsAtForm IsListOrMap x.0) is stop)))
