use Rattle.fwd_chunk.proofs.Creation.{create_since, create_after}
use Rattle.fwd_chunk.proofs.new_file.create.Goals as goal

pub returns-clause-any_moment : goal.returns-clause-any_moment
returns-clause-any_moment g c = create_since _ _ c.create_inner.result c.args.name.now c.args.tag.now c.args.batch.now c.args.outputs.now c.create_inner.ensures.calls

pub returns-clause-settled : goal.returns-clause-settled
returns-clause-settled g c = create_after _ _ c.create_inner.result c.args.name.now c.args.tag.now c.args.batch.now c.args.outputs.now c.requires.tag c.requires.outputs c.requires.fits c.create_inner.ensures.head c.create_inner.ensures.calls
