-- The calls of a wait, and the events that it gives.
use Rattle.std.proofs.Common.{◌≡◌, ℕ, Bool, Option, Some, None, Result, Ok, Err, IfOk, sym, ap}
use Rattle.fwd_outside.specs.Log.{RunsProgram}
use Rattle.fwd_outside.specs.Loop.{LoopLog, MayOccur, WaitFails, loop_outcome}
use Rattle.fwd_outside.specs.declared.happening.Happening.{Happening}
use Rattle.fwd_outside.specs.declared.happening.Happening.TheVariants as happening
use Rattle.fwd_secure.specs.declared.keys.Keys.{Keys}
use Rattle.fwd_secure.specs.declared.handshakes.KeptBytes.{KeptBytes}
use Rattle.fwd_secure.specs.declared.handshakes.KeptBytes.TheVariants.{OfConn, OfLink}
use Rattle.fwd_secure.specs.Kept.{first_given, event_of}
use Rattle.fwd_secure.specs.Handshakes.{Handshakes, without_given}
use Rattle.fwd_secure.specs.Outcome.{with_state}
use Rattle.fwd_secure.specs.Rules.{brings, waits_by, waits}
use Rattle.fwd_secure.proofs.RuleSteps.{at_state, by_program, returned}
use Rattle.fwd_secure.proofs.Given.{given_event}

module _ (keys : Keys) (k : Handshakes) (until paused : ℕ) where
  -- kept bytes are given
  pub kept_given : (a : LoopLog) (bytes : KeptBytes) (y : Happening) (u : Handshakes) → Some bytes ≡ first_given paused k.kept → y ≡ event_of bytes → u ≡ without_given k paused
      → RunsProgram a a (waits keys k until paused) (Some (y, u))
  kept_given a bytes y u first event rest =
      by_program a a (waits_by keys k until paused (Some bytes)) (waits keys k until paused) (Some (y, u)) (ap (waits_by keys k until paused) (sym first))
      (at_state a a (waits_by keys k until paused (Some bytes)) (event_of bytes) y (without_given k paused) u event rest (returned a (event_of bytes, without_given k paused)))

-- kept bytes are no failure, and may be given
pub no_kept_failure : (bytes : KeptBytes) → event_of bytes ≡ happening.Failed → ⊥
no_kept_failure (OfConn input conn bytes) is = cc is
no_kept_failure (OfLink link bytes) is = cc is

-- what a rule makes of an event that may occur
module _ {E : Type 0} (endless : Bool) (paused : ℕ) (keys : Keys) (k : Handshakes) (x : Happening) (a b : LoopLog) (u : Handshakes) where
  pub event_allowed : (r : Result Happening E) → RunsProgram a b (brings keys k x) (with_state (loop_outcome r) u) → MayOccur endless paused x → IfOk r (MayOccur endless paused)
  event_allowed (Ok y) runs may = (given_event endless paused keys k x runs.entries (y, u) runs.way).allowed may
  event_allowed (Err e) runs may = tt

  pub event_fails : (r : Result Happening E) → RunsProgram a b (brings keys k x) (with_state (loop_outcome r) u) → WaitFails r → x ≡ happening.Failed
  event_fails (Ok y) runs fails = (given_event endless paused keys k x runs.entries (y, u) runs.way).failed fails
  event_fails (Err e) runs fails = absurd fails
