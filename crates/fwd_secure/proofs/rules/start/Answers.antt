use Rattle.std.proofs.Common.{refl}
use Rattle.fwd_outside.specs.Loop.{start_outcome}
use Rattle.fwd_secure.proofs.RuleSteps.{unasked}
use Rattle.fwd_secure.proofs.EventCalls.{start_passes}
use Rattle.fwd_secure.proofs.rules.start.Goals as goal

pub returns-then-not-keyed-clause-calls : goal.returns-then-not-keyed-clause-calls
returns-then-not-keyed-clause-calls g c keys =
    start_passes c.args.keyed keys c.args.state.now _ _ _ c.args.ends.now (start_outcome c.start.result) (rw c.if-not-keyed.true refl) c.start.ensures.call_log

pub returns-in-Ok-clause-calls : goal.returns-in-Ok-clause-calls
returns-in-Ok-clause-calls g c keys =
    start_passes c.args.keyed keys c.args.state.now _ _ _ c.args.ends.now (start_outcome c.start-in-Ok.result) (rw c.if-not-keyed.false c.in-Ok.ensures.ok) c.start-in-Ok.ensures.call_log

pub returns-in-Err-clause-calls : goal.returns-in-Err-clause-calls
returns-in-Err-clause-calls g c keys = unasked _ _
