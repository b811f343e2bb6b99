-- The counts and the failures of the loop below after a call.
use Rattle.std.proofs.Common.{◌≡◌, ℕ, ◌+◌, ◌-◌, ◌^◌, ◌≤◌, min, Bool, true, false, Result, Ok, Err, refl, sym, ◌∙◌, subst, arith}
use Rattle.fwd_outside.specs.Cause.{HasCause, HasIncreased}
use Rattle.fwd_outside.specs.Loop.{LoopCounts, counts_after_wait, counts_after_dial, IsNewLink}
use Rattle.fwd_outside.specs.declared.answers.Dialed.{Dialed}
use Rattle.fwd_outside.specs.declared.answers.Dialed.TheVariants.{Link, Refused, Memory}
use Rattle.fwd_secure.specs.Counts.{CountsRise, WaitCounts, DialCounts}

-- ---- counts

pub counts_stay : (old new : LoopCounts) → new ≡ old → CountsRise old new
counts_stay old new same = subst (λ (c : LoopCounts). CountsRise old c) (sym same) (record { happenings = omega arith; greatest = omega arith; endless = refl })

-- one event more, unless the count has saturated
abbrev pub one_more : LoopCounts → LoopCounts
one_more counts = record counts { happenings = min (counts.happenings + 1) (2 ^ 64 - 1) }

counts_rise : (old : LoopCounts) → CountsRise old (one_more old)
counts_rise old = record { happenings = omega arith; greatest = omega arith; endless = refl }

-- a wait that is passed on
pub wait_passes : {T E : Type 0} (old new : LoopCounts) (r : Result T E) → new ≡ counts_after_wait old r → WaitCounts false old new r
wait_passes old new (Ok x) is = is
wait_passes old new (Err e) is = counts_stay old new is

-- an event of the loop below, and what its rule makes of it
pub wait_brings : {T E : Type 0} (old mid new : LoopCounts) (r : Result T E) → mid ≡ one_more old → new ≡ mid → WaitCounts false old new r
wait_brings old mid new (Ok y) is same = same ∙ is
wait_brings old mid new (Err e) is same = subst (λ (c : LoopCounts). CountsRise old c) (sym (same ∙ is)) (counts_rise old)

-- kept bytes were given
pub wait_gives : {T E : Type 0} (given : Bool) (old new : LoopCounts) (r : Result T E) → given ≡ true → new ≡ old → WaitCounts given old new r
wait_gives true old new r is same = same
wait_gives false old new r is same = absurd (cc is)

pub wait_asks : {T E : Type 0} (given : Bool) (old new : LoopCounts) (r : Result T E) → given ≡ false → WaitCounts false old new r → WaitCounts given old new r
wait_asks true old new r is counts = absurd (cc is)
wait_asks false old new r is counts = counts

-- a dial that is passed on
pub dial_passes : (old new : LoopCounts) (d : Dialed) → new ≡ counts_after_dial old d → IsNewLink old d → DialCounts old new d
dial_passes old new (Link link) is newer = (is, newer)
dial_passes old new Refused is newer = is
dial_passes old new Memory is newer = counts_stay old new is

-- ---- failures

pub no_cause : (old new : ℕ) (P : Type 0) → old ≤ new → (P → ⊥) → HasCause old new P
no_cause old new P later not = record { later = later; cause = λ p. absurd (not p) }

-- a failure of a call, and what it means for the answer above
pub cause_of : (old mid new : ℕ) (P Q : Type 0) → HasCause old mid P → mid ≤ new → (Q → P) → HasCause old new Q
cause_of old mid new P Q cause later of = record {
  later = omega (arith, cause.later, later);
  cause = λ q. let rose : HasIncreased old mid = cause.cause (of q) in omega (arith, rose, later);
}
