use Rattle.std.proofs.Common.{◌≡◌, true, false, None, sym, ◌∙◌}
use Rattle.fwd_model.specs.Routes.{owes}
use Rattle.fwd_model.specs.ResolveActions.{marks_or_removes}
use Rattle.fwd_engine_chunks.proofs.resolution.settle.Goals as goal

pub returns-then-is_pending-clause-acts : goal.returns-then-is_pending-clause-acts
unfolding marks_or_removes
returns-then-is_pending-clause-acts g c others h shows done =
    let is : owes c.args.run.now h c.args.route.chunk.0 ≡ true = sym (c.is_pending.ensures c.args.run.now h None shows.state) ∙ c.if-is_pending.true in
    rw is (c.record.ensures.acts others h shows)

pub returns-else-is_pending-clause-acts : goal.returns-else-is_pending-clause-acts
unfolding marks_or_removes
returns-else-is_pending-clause-acts g c others h shows done =
    let is : owes c.args.run.now h c.args.route.chunk.0 ≡ false = sym (c.is_pending.ensures c.args.run.now h None shows.state) ∙ c.if-is_pending.false in
    rw is (c.drop_chunk.ensures.acts c.args.run.now others h shows done)
