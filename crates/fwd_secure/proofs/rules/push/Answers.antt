use Rattle.fwd_outside.specs.Loop.{Push, push_outcome}
use Rattle.fwd_secure.proofs.EventCalls.{call_keyed, call_unkeyed}
use Rattle.fwd_secure.proofs.rules.push.Goals as goal

pub returns-then-keyed-clause-calls : goal.returns-then-keyed-clause-calls
returns-then-keyed-clause-calls g c keys =
    call_keyed keys c.args.state.now (Push c.args.link.0 c.args.bytes.now) _ _ c.args.keyed _ c.if-keyed.true (c.push_keyed.ensures.calls keys)

pub returns-else-keyed-clause-calls : goal.returns-else-keyed-clause-calls
returns-else-keyed-clause-calls g c keys =
    call_unkeyed keys c.args.state.now (Push c.args.link.0 c.args.bytes.now) _ _ c.args.keyed (push_outcome c.push.result) c.if-keyed.false c.push.ensures.call_log
