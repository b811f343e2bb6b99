use Rattle.fwd_chunk.proofs.AppendClauses.{stage_since, stage_after}
use Rattle.fwd_chunk.proofs.append.stage.Goals as goal

pub returns-clause-any_moment : goal.returns-clause-any_moment
returns-clause-any_moment g c meta content = stage_since _ _ c.stage_inner.result c.args.head.now meta content c.args.batch.now c.args.full c.requires c.stage_inner.ensures.calls

pub returns-clause-staged : goal.returns-clause-staged
returns-clause-staged g c = stage_after _ _ c.stage_inner.result c.args.head.now c.args.batch.now c.args.full c.requires c.stage_inner.ensures.calls
