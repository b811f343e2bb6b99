-- What a call on a keyed loop does to the counts of the loop below, and to the bytes that are kept.
use Rattle.std.specs.Prelude.{◌≡◌, ◌+◌, ◌-◌, ◌^◌, ◌≤◌, min, Bool, true, false, Result, Ok, Err}
use Rattle.fwd_outside.specs.Loop.{LoopCounts, counts_after_wait}
use Rattle.fwd_outside.specs.declared.answers.Dialed.{Dialed}
use Rattle.fwd_outside.specs.declared.answers.Dialed.TheVariants.{Link, Refused, Memory}

-- no count fell; that of events saturates
pub record CountsRise (old new : LoopCounts) : Type 0 where
  pub happenings : min old.happenings (2 ^ 64 - 1) ≤ new.happenings
  pub greatest : old.greatest ≤ new.greatest
  pub endless : new.endless ≡ old.endless

-- a wait that gives kept bytes asks for nothing; any other asks for one event
abbrev pub WaitCounts : {T E : Type 0} → Bool → LoopCounts → LoopCounts → Result T E → Type 0
WaitCounts true old new result = new ≡ old
WaitCounts {T = T} {E = E} false old new (Ok brought) = new ≡ counts_after_wait {T = T} {E = E} old (Ok brought)
WaitCounts false old new (Err e) = CountsRise old new

-- out of memory, the link may have been opened
abbrev pub DialCounts : LoopCounts → LoopCounts → Dialed → Type 0
DialCounts old new (Link link) = (new ≡ record old { greatest = link.0 }) × (old.greatest + 1 ≤ link.0)
DialCounts old new Refused = new ≡ old
DialCounts old new Memory = CountsRise old new
