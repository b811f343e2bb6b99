-- How many events a loop gave.
use Rattle.std.proofs.Common.{ℕ, ◌+◌, ◌-◌, ◌≤◌, ◌∙◌, Result, Ok, Err, refl, arith}
use Rattle.fwd_outside.specs.Loop.{LoopCounts}
use Rattle.fwd_engine_state.specs.LoopCounters.{EventsTaken, NoEventTaken}
use Rattle.fwd_engine_run.specs.RunOutcome.{heard_in}
use Rattle.fwd_engine_run.specs.declared.run_loop.RunEnd.{RunEnd}
use Rattle.fwd_engine_run.specs.declared.run_loop.RunEnd.TheVariants as run_end

pub events_first : (a : LoopCounts) → EventsTaken 0 a a
events_first a = record { happenings = omega arith; greatest = omega arith; endless = refl }

pub events_more : {a b c : LoopCounts} (n : ℕ) → EventsTaken n a b → EventsTaken 1 b c → EventsTaken (n + 1) a c
events_more n first second = record {
  happenings = let x = first.happenings in let y = second.happenings in grind arith;
  greatest = let x = first.greatest in let y = second.greatest in omega arith;
  endless = second.endless ∙ first.endless;
}

-- after a call that takes no event
pub events_composed : {a b c : LoopCounts} (n : ℕ) → EventsTaken n a b → NoEventTaken b c → EventsTaken n a c
events_composed n first second = record {
  happenings = let x = first.happenings in rw second.happenings x;
  greatest = let x = first.greatest in let y = second.greatest in omega arith;
  endless = second.endless ∙ first.endless;
}

pub events_all : {a b : LoopCounts} (n most : ℕ) → most ≤ n → EventsTaken n a b → EventsTaken most a b
events_all n most least heard = record { happenings = let x = heard.happenings in grind arith; greatest = heard.greatest; endless = heard.endless }

-- before a call that takes events
pub events_after : {a b c : LoopCounts} (n : ℕ) → NoEventTaken a b → EventsTaken n b c → EventsTaken n a c
events_after n first second = record {
  happenings = let x = second.happenings in rw first.happenings at x;
  greatest = let x = first.greatest in let y = second.greatest in omega arith;
  endless = second.endless ∙ first.endless;
}

-- some events, and then others
events_both : {a b c : LoopCounts} (n m most : ℕ) → most ≤ n + m → EventsTaken n a b → EventsTaken m b c → EventsTaken most a c
events_both n m most least first second = record {
  happenings = let x = first.happenings in let y = second.happenings in grind arith;
  greatest = let x = first.greatest in let y = second.greatest in omega arith;
  endless = second.endless ∙ first.endless;
}

-- the events up to the last tick, and those after it
pub events_to_end : {E : Type 0} {a b c : LoopCounts} (most left : ℕ) (result : Result RunEnd E) → EventsTaken (most - left) a b → EventsTaken (heard_in left result) b c → EventsTaken (heard_in most result) a c
events_to_end most left (Ok run_end.TurnsSpent) first second = events_both (most - left) left most (omega arith) first second
events_to_end most left (Ok run_end.Over) first second = events_both (most - left) 0 0 (omega arith) first second
events_to_end most left (Ok run_end.KeeperFailed) first second = events_both (most - left) 0 0 (omega arith) first second
events_to_end most left (Ok run_end.LoopFailed) first second = events_both (most - left) 0 0 (omega arith) first second
events_to_end most left (Err e) first second = events_both (most - left) 0 0 (omega arith) first second
