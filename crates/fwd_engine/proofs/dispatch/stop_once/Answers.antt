use Rattle.std.proofs.Common.{◌≡◌, true, false, sym, ◌∙◌}
use Rattle.std.specs.Prelude.{is_some}
use Rattle.fwd_model.specs.StepActions.{stops}
use Rattle.fwd_model.proofs.Refinement.{completes_idle}
use Rattle.fwd_engine.proofs.dispatch.stop_once.Goals as goal

pub returns-then-stopped-clause-acts : goal.returns-then-stopped-clause-acts
unfolding stops
returns-then-stopped-clause-acts g c before is others h shows =
    let some : is_some before ≡ true = is ∙ c.if-stopped.true in
    rw some (completes_idle _ _ h shows)

pub returns-clause-acts : goal.returns-clause-acts
unfolding stops
returns-clause-acts g c before is others h shows =
    let none : is_some before ≡ false = is ∙ c.if-stopped.false in
    rw none (c.close_and_dispatch.ensures.acts others h shows)
