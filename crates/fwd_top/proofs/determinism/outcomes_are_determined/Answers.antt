use Rattle.fwd_replay.specs.declared.report.Shown.TheVariants.{All, Report}
use Rattle.fwd_top.specs.Outcomes.{Produces}
use Rattle.fwd_top.specs.Cases.{Case, Replays, Generates, Runs, Records, Lists, Refuses}
use Rattle.fwd_top.specs.Determinism.{IsDetermined}
use Rattle.fwd_top.proofs.determinism.outcomes_are_determined.Goals as goal

pub returns : goal.returns
returns c turns case old new reported comes = by case comes
  where
    by : (case : Case) → Produces turns case old new reported → IsDetermined turns case reported
    by (Replays s lives) comes = λ other is enough left. c.schedules_determine_text.ensures All s turns lives reported other comes.replayed is enough left
    by (Generates s lives) comes = λ other is enough left. c.schedules_determine_text.ensures Report s turns lives reported other comes.replayed is enough left
    by (Runs s ticks) comes = tt
    by (Records s ticks) comes = tt
    by (Lists root) comes = tt
    by (Refuses other) comes = tt
