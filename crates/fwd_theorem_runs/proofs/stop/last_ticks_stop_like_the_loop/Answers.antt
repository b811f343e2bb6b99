use Rattle.std.proofs.Common.{[], ◌∙◌}
use Rattle.fwd_theorem_trace.specs.Past.{past_after}
use Rattle.fwd_theorem_trace.proofs.Run.{due_since}
use Rattle.fwd_theorem_trace.proofs.Traversal.{noted_since}
use Rattle.fwd_theorem_runs.proofs.LastTick.{stop_of_loop}
use Rattle.fwd_theorem_runs.proofs.stop.last_ticks_stop_like_the_loop.Goals as goal

pub returns : goal.returns
returns c s ends ticks turns more trace rest left result h untracked way is none stop =
    stop_of_loop s ticks more (past_after [] trace) h rest result untracked (due_since s ends ticks turns trace left way) (noted_since [] trace ∙ is) none stop
