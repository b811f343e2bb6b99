use Rattle.fwd_chunk.proofs.AppendClauses.{commit_since, commit_after}
use Rattle.fwd_chunk.proofs.append.commit.Goals as goal

pub returns-clause-any_moment : goal.returns-clause-any_moment
returns-clause-any_moment g c meta content batch = commit_since _ _ c.commit_inner.result c.args.head.now meta content batch c.args.full c.commit_inner.ensures.calls

pub returns-clause-settled : goal.returns-clause-settled
returns-clause-settled g c = commit_after _ _ c.commit_inner.result c.args.head.now c.args.size c.args.full _ c.commit_inner.ensures.head_ok c.commit_inner.ensures.calls
