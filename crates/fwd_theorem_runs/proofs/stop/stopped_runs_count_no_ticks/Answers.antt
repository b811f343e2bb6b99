use Rattle.std.proofs.Common.{[], subst, ◌≡◌, sym}
use Rattle.std.specs.Prelude.{Some, None}
use Rattle.fwd_model.specs.Fact.{History}
use Rattle.fwd_model.specs.Clock.{stopped}
use Rattle.fwd_model.specs.Run.{run}
use Rattle.fwd_theorem_trace.specs.Past.{past_after}
use Rattle.fwd_theorem_trace.proofs.Run.{due_since}
use Rattle.fwd_theorem_trace.proofs.Traversal.{noted_since}
use Rattle.fwd_theorem_runs.proofs.LastTick.{stopped_run}
use Rattle.fwd_theorem_runs.proofs.stop.stopped_runs_count_no_ticks.Goals as goal

pub returns : goal.returns
returns c s ends ticks turns trace left at more way is =
    let past = past_after [] trace in
    let same = noted_since [] trace in
    subst (λ (h : History). run s ticks more h ≡ run s None more h) same
    (stopped_run s ticks more past at (due_since s ends ticks turns trace left way) (subst (λ (h : History). stopped s h ≡ Some at) (sym same) is))
