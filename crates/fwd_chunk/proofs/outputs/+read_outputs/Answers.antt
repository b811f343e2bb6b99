use Rattle.std.proofs.Common.{arith}
use Rattle.fwd_chunk.proofs.MetadataSteps.{none_left, none_there, read_more}
use Rattle.fwd_chunk.proofs.outputs.+read_outputs.Goals as goal

pub returns-then-count-eq0 : goal.returns-then-count-eq0
returns-then-count-eq0 t c = none_left c.args.count c.args.bytes.now c.args.outputs.now c.is_empty.result c.if-count-eq0.true c.is_empty.ensures

pub returns-in_default : goal.returns-in_default
returns-in_default t c = none_there c.args.count c.args.bytes.now c.args.outputs.now c.args.outputs.now c.if-count-eq0.false c.in_default.ensures

pub returns : goal.returns
returns t c =
    read_more c.args.count _ c.args.bytes.now c.in-Some.next.rest.now _ c.args.outputs.now c.push.new.self _ c.read_outputs.result (omega arith) c.in-Some.ensures c.in_ok-push.ensures c.read_outputs.ensures
