use Rattle.std.proofs.Common.{[]}
use Rattle.fwd_model.specs.Trace.{history_after}
use Rattle.fwd_theorem_trace.specs.Past.{past_after}
use Rattle.fwd_theorem_trace.proofs.Traversal.{noted_since}
use Rattle.fwd_theorem_trace.proofs.Run.{due_since}
use Rattle.fwd_theorem_steps.proofs.TickPolls.{tick_polls}
use Rattle.fwd_theorem_steps.proofs.ticks.ticks_poll_followed_files.Goals as goal

pub returns : goal.returns
returns c s ends ticks turns before entries left now input index path new run due is way =
    tick_polls s input path (past_after [] before) (history_after before []) (noted_since [] before) (due_since s ends ticks turns before left run) now index due is entries new way
