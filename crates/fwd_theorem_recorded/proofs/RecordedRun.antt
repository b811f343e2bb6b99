-- What a recorder saw of a run, and its replay.
use Rattle.std.proofs.Common.{◌≡◌, ℕ, Bool, List, [], Option, Some, None, refl}
use Rattle.fwd_outside.specs.Program.{Return, Execution}
use Rattle.fwd_outside.specs.NewLinks.{AreNewLinks}
use Rattle.fwd_outside.specs.LoopAnswers.{AreLoopAnswers}
use Rattle.fwd_outside.specs.declared.happening.Happening.TheVariants as happening
use Rattle.fwd_settings.specs.declared.settings_types.AllSettings.{AllSettings}
use Rattle.fwd_model.specs.Trace.{TraceEntry, loop_part}
use Rattle.fwd_model.specs.Settings.{paths_at}
use Rattle.fwd_model.specs.Run.{RunResult, TurnsSpent, run, steps_on}
use Rattle.fwd_secure.specs.Handshakes.{Handshakes}
use Rattle.fwd_record.specs.Seen.{Seen, calls_of}
use Rattle.fwd_record.specs.Allowed.{AreAllowed}
use Rattle.fwd_replay.specs.RecordedRun.{IsSeen, Unstopped, StoppedAfter, StopsAfter, runs_on, HasReport}
use Rattle.fwd_replay.specs.Runs.{first, IsLife}
use Rattle.fwd_theorem_recorded.specs.Replays.{life_of, IsUnheldAtStop, IsReplayOf}
use Rattle.fwd_theorem_recorded.proofs.ReplayNeeds.{CanReplay}
use Rattle.fwd_theorem_recorded.proofs.MadeTrace.{none_tracked}
use Rattle.fwd_theorem_recorded.proofs.ReplayedRun.{replay_of}
use Rattle.fwd_theorem_recorded.proofs.SameLeft.{same_left}
use Rattle.fwd_theorem_recorded.proofs.StopPlace.{not_a_turn, same_result}
use Rattle.fwd_theorem_recorded.proofs.StoppedRun.{replay_stopped}

module _ (s : AllSettings) (none : (input : ℕ) → paths_at s input ≡ []) (turns : ℕ) (result : RunResult) (endless : Bool) (ended : HasReport result) where
  -- a run with or without a number of ticks
  plain_way : (ticks : Option ℕ) (trace : List TraceEntry) (other : RunResult) → Execution (runs_on s ticks turns) trace (Return result) → Execution (runs_on s None turns) trace (Return other) → Execution (runs_on s None turns) trace (Return result)
  plain_way None trace other way plain = way
  plain_way (Some ticks) trace other way plain = same_result s (none_tracked s none) ticks turns result trace other way plain

  stops_never : (before : List TraceEntry) → StopsAfter s None turns before → ⊥
  stops_never before stops =
      not_a_turn s (run s None stops.left) stops.left stops.now (same_left (runs_on s None turns) (steps_on s (run s None stops.left) happening.Stop stops.now) (run s None stops.left stops.now) before stops.stops stops.goes_on)

  pub replay_seen : (ticks : Option ℕ) (trace below : List TraceEntry) (k : Handshakes) (seen : List Seen) → Execution (runs_on s ticks turns) trace (Return result) → (is_seen : IsSeen s ticks turns trace below k seen)
      → AreLoopAnswers (loop_part trace) → AreAllowed endless (calls_of seen) → AreNewLinks 0 (calls_of seen) → CanReplay s below k result seen → IsUnheldAtStop s ticks turns trace below k seen is_seen
      → (turns2 : ℕ) (replay : List TraceEntry) (comes : RunResult) (is : IsLife s turns2 first (life_of s seen below) replay comes) → (comes.end ≡ TurnsSpent → ⊥) → IsReplayOf s trace below result seen replay is.below comes
  replay_seen ticks trace below k seen way (Unstopped _ _ _ other plain so) answers allowed new can unheld turns2 replay comes is unspent =
      replay_of s none turns trace below k result endless seen (plain_way ticks trace other way plain) ended so answers refl allowed new can turns2 replay comes is unspent
  replay_seen None trace below k seen way (StoppedAfter before after before_below after_below stopped _ stops so more) answers allowed new can unheld turns2 replay comes is unspent = absurd (stops_never before stops)
  replay_seen (Some ticks) trace below k seen way (StoppedAfter before after before_below after_below stopped _ stops so more) answers allowed new can unheld turns2 replay comes is unspent =
      replay_stopped s none ticks turns before after before_below after_below stopped k result endless stops so more way ended answers allowed new can unheld turns2 replay comes is unspent
