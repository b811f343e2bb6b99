use Rattle.std.proofs.Common.{◌≡◌, Some, sym, ◌∙◌}
use Rattle.fwd_model.specs.Settings.{total_limit_at}
use Rattle.fwd_engine_chunks.proofs.eviction.enforce_limit.Goals as goal

pub returns-in-Some-clause-acts : goal.returns-in-Some-clause-acts
returns-in-Some-clause-acts g c others h shows idle =
    let is : total_limit_at c.args.run.now c.args.output.0 ≡ Some c.in-Some.limit = sym c.limit.ensures ∙ c.in-Some.is in
    rw is (c.evict_to_limit.ensures.acts others h shows idle)
