use Rattle.std.proofs.Common.{[], subst}
use Rattle.fwd_model.specs.Trace.{history_after}
use Rattle.fwd_theorem_trace.specs.Past.{past_after}
use Rattle.fwd_theorem_trace.proofs.Traversal.{noted_since}
use Rattle.fwd_theorem_trace.proofs.Run.{due_since}
use Rattle.fwd_theorem_steps.proofs.StepParts.{step_dispatches}
use Rattle.fwd_theorem_steps.proofs.ticks.events_end_with_a_dispatch.Goals as goal

pub returns : goal.returns
returns c s ends ticks turns before entries left brought new run due on way =
    step_dispatches s (past_after [] before) (history_after before []) (noted_since [] before) (due_since s ends ticks turns before left run) brought due on entries new way
