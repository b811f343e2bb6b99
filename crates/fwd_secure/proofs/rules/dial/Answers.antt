use Rattle.fwd_outside.specs.Loop.{Dial, dial_outcome}
use Rattle.fwd_secure.proofs.EventCalls.{call_keyed, call_unkeyed}
use Rattle.fwd_secure.proofs.CallCounts.{dial_passes}
use Rattle.fwd_secure.proofs.rules.dial.Goals as goal

pub returns-then-keyed-clause-calls : goal.returns-then-keyed-clause-calls
returns-then-keyed-clause-calls g c =
    call_keyed c.args.keys.now c.args.state.now (Dial c.args.output.0 c.args.tag.now) _ _ c.args.keyed _ c.if-keyed.true c.dial_keyed.ensures.calls

pub returns-else-keyed-clause-calls : goal.returns-else-keyed-clause-calls
returns-else-keyed-clause-calls g c =
    call_unkeyed c.args.keys.now c.args.state.now (Dial c.args.output.0 c.args.tag.now) _ _ c.args.keyed (dial_outcome c.dial.result) c.if-keyed.false c.dial.ensures.call_log

pub returns-else-keyed-clause-counted : goal.returns-else-keyed-clause-counted
returns-else-keyed-clause-counted g c = dial_passes _ _ c.dial.result c.dial.ensures.counted c.dial.ensures.newest
