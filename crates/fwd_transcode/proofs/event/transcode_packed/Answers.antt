use Rattle.std.proofs.Common.{arith}
use Rattle.fwd_transcode.proofs.Events.{one_event_more, rest_is_shorter, few_events}
use Rattle.fwd_transcode.proofs.event.transcode_packed.Goals as goal

pub prove-unreachable-requires : goal.prove-unreachable-requires
prove-unreachable-requires c =
    let found = rw c.in-Some.is at c.in_ok-behind.ensures.given in
    omega (arith, few_events c.loop-rest.count c.loop-rest.rest.now c.args.bytes.now c.args.out.now c.loop-rest.out c.loop-rest.invariant, rest_is_shorter 64 c.in-Some.behind.now c.loop-rest.rest.now c.loop-rest.out c.transcode_nested.new.out found, c.if-prove.true)

pub loop-rest-preserved : goal.loop-rest-preserved
loop-rest-preserved c =
    let found = rw c.in-Some.is at c.in_ok-behind.ensures.given in
    one_event_more c.loop-rest.count c.loop-rest.rest.now c.in-Some.behind.now c.args.bytes.now c.args.out.now c.loop-rest.out c.transcode_nested.new.out c.loop-rest.invariant found
