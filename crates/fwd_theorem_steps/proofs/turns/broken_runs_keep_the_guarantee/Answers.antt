use Rattle.std.proofs.Common.{◌≡◌, ◌⊎◌, inl, inr, ◌≤◌, List, ◌++◌}
use Rattle.fwd_model.specs.Trace.{TraceEntry, loop_part}
use Rattle.fwd_model.specs.Run.{TurnsSpent, lived}
use Rattle.fwd_theorem_trace.specs.Waits.{waits_in}
use Rattle.fwd_theorem_delivery.specs.Guarantee.{KeepsGuarantee}
use Rattle.fwd_theorem_steps.specs.Turns.{HasTurns, NoTurn, WholeTurns}
use Rattle.fwd_theorem_steps.proofs.BrokenRuns.{come_by_turns, first_new}
use Rattle.fwd_theorem_steps.proofs.turns.broken_runs_keep_the_guarantee.Goals as goal

pub returns : goal.returns
returns c s ends ticks turns entries left way new = by (come_by_turns s ends ticks turns entries left way)
  where
    by : HasTurns s ends ticks entries → (waits_in entries ≡ 0) ⊎ ((whole : List TraceEntry) × (since : List TraceEntry) × (entries ≡ whole ++ since) × (waits_in since ≤ 1) × KeepsGuarantee s whole)
    by (NoTurn none) = inl none
    by (WholeTurns last) =
        let keeps = c.runs_keep_the_guarantee.ensures s ends ticks last.turns last.whole (lived last.history TurnsSpent) last.way (first_new last.whole last.since entries last.is new) in
        inr (last.whole, last.since, last.is, last.few, keeps)
