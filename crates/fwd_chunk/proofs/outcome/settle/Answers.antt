use Rattle.fwd_chunk.proofs.OutcomeClauses.{settle_since, settle_after}
use Rattle.fwd_chunk.proofs.outcome.settle.Goals as goal

pub returns-clause-any_moment : goal.returns-clause-any_moment
returns-clause-any_moment g c = settle_since _ _ c.settle_inner.result c.args.head.now c.args.output.now c.args.full c.settle_inner.ensures.calls

pub returns-clause-recorded : goal.returns-clause-recorded
returns-clause-recorded g c = settle_after _ _ c.settle_inner.result c.args.head.now c.args.output.now c.args.full c.settle_inner.ensures.calls
