-- How the counters of a loop change during a call, with or without a call log.
use Rattle.std.specs.Prelude.{◌≡◌, ℕ, ◌+◌, ◌-◌, ◌^◌, ◌≤◌, min}
use Rattle.fwd_outside.specs.Loop.{LoopCounts}

-- the loop gave no event; it may have given connections
pub record NoEventTaken (before after : LoopCounts) : Type 0 where
  pub happenings : after.happenings ≡ before.happenings
  pub greatest : before.greatest ≤ after.greatest
  pub endless : after.endless ≡ before.endless

-- the loop gave at least n events, unless their counter is saturated
pub record EventsTaken (n : ℕ) (before after : LoopCounts) : Type 0 where
  pub happenings : min (before.happenings + n) (2 ^ 64 - 1) ≤ after.happenings
  pub greatest : before.greatest ≤ after.greatest
  pub endless : after.endless ≡ before.endless
