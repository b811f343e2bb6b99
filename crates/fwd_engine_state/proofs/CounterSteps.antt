-- Composition of the changes of a loop's counters.
use Rattle.std.proofs.Common.{ℕ, ◌≤◌, ◌∙◌, refl, arith}
use Rattle.fwd_outside.specs.Loop.{LoopCounts}
use Rattle.fwd_engine_state.specs.LoopCounters.{NoEventTaken}

pub as_many : (n : ℕ) → n ≤ n
as_many n = omega arith

pub no_event_composed : {a b c : LoopCounts} → NoEventTaken a b → NoEventTaken b c → NoEventTaken a c
no_event_composed first second = record {
  happenings = second.happenings ∙ first.happenings;
  greatest = let x = first.greatest in let y = second.greatest in omega arith;
  endless = second.endless ∙ first.endless;
}

pub no_event_first : (a : LoopCounts) → NoEventTaken a a
no_event_first a = record { happenings = refl; greatest = as_many a.greatest; endless = refl }
