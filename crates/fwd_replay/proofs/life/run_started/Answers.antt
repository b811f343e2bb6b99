use Rattle.std.proofs.Common.{ap, subst, sym}
use Rattle.fwd_engine_run.specs.EngineSteps.{IsAt}
use Rattle.fwd_replay.specs.declared.progress.Going.{Going}
use Rattle.fwd_replay.proofs.life.run_started.Goals as goal

pub returns : goal.returns
returns g c s begins named under =
    c.outcome_of.ensures c.args.named.now.shown s c.args.most begins c.args.life.now c.live-came.new.going c.live-came.new.disk c.live-came.new.files c.live-came.new.keeper (c.live-came.ensures s begins named under)
    (λ now at. c.finish.ensures s now (subst (λ (going : Going). IsAt going.engine s now) (sym c.going.view_is) at)) (ap (λ (going : Going). going.taken) c.going.view_is)
