use Rattle.fwd_settings.specs.Endpoints.{ends_of}
use Rattle.fwd_replay.specs.LiveRun.{RanToEnd, RanOutOfMemory}
use Rattle.fwd_replay.specs.Runs.{first}
use Rattle.fwd_replay.specs.declared.report.Shown.TheVariants.{All, Report}
use Rattle.fwd_top.specs.Outcomes.{Produces, world}
use Rattle.fwd_top.specs.Cases.{Case, Replays, Generates, Runs, Records, Lists, Refuses}
use Rattle.fwd_top.specs.Delivery.{IsDelivered}
use Rattle.fwd_top.proofs.Delivery.{each_keeps}
use Rattle.fwd_top.proofs.guarantee.outcomes_are_delivered.Goals as goal

pub returns : goal.returns
returns c turns case old new reported comes = by case comes
  where
    by : (case : Case) (comes : Produces turns case old new reported) → IsDelivered turns case old new reported comes
    by (Replays s lives) comes = each_keeps c.all_runs_keep_the_guarantee.ensures.lives c.all_runs_keep_the_guarantee.ensures.cut All s turns first lives reported comes.replayed
    by (Generates s lives) comes = each_keeps c.all_runs_keep_the_guarantee.ensures.lives c.all_runs_keep_the_guarantee.ensures.cut Report s turns first lives reported comes.replayed
    by (Runs s ticks) (RanToEnd lived) = c.all_runs_keep_the_guarantee.ensures.live s ticks turns (world old) (world new) reported lived
    by (Runs s ticks) (RanOutOfMemory begun none) = c.broken_runs_keep_the_guarantee.ensures s (ends_of s) ticks turns begun.trace begun.left begun.way begun.answers.links
    by (Records s ticks) comes = tt
    by (Lists root) comes = tt
    by (Refuses other) comes = tt
