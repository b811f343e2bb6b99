use Rattle.fwd_engine_run.proofs.RunTurns.{stop_goes}
use Rattle.fwd_engine_run.proofs.run_parts.stop.Goals as goal

pub returns-clause-goes : goal.returns-clause-goes
returns-clause-goes g c others s h next offsets at keeps =
    stop_goes _ _ s h next c.step.new.self offsets keeps c.step.result (c.step.ensures.steps others s h at)
