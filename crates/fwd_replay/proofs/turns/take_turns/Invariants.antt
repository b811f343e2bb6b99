use Rattle.std.proofs.Common.{◌≡◌}
use Rattle.fwd_settings.specs.declared.settings_types.AllSettings.{AllSettings}
use Rattle.fwd_replay.specs.Runs.{Start}
use Rattle.fwd_replay.specs.RunState.{IsInProgress}
use Rattle.fwd_replay.proofs.turns.take_turns.Given as goal

-- the run is in progress, and has taken the turns so far
abbrev pub invariant-loop : goal.invariant-loop
invariant-loop g l =
    (l.going.taken ≡ l.counter) × ((s : AllSettings) (start : Start) → IsInProgress s start l.life l.fn.going l.fn.disk l.fn.files l.fn.keeper → IsInProgress s start l.life l.going l.disk l.files l.keeper)
