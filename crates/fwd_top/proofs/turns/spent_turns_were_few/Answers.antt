use Rattle.std.proofs.Common.{◌≡◌}
use Rattle.fwd_replay.specs.Runs.{first}
use Rattle.fwd_replay.specs.declared.report.Ending.TheVariants.{TurnsSpent}
use Rattle.fwd_replay.specs.declared.report.Shown.TheVariants.{All, Report}
use Rattle.fwd_top.specs.Cases.{Case, Replays, Generates, Runs, Records, Lists, Refuses}
use Rattle.fwd_top.specs.EnoughTurns.{HasFewTurns}
use Rattle.fwd_top.specs.Outcomes.{Produces}
use Rattle.fwd_top.proofs.SpentTurns.{few_turns}
use Rattle.fwd_top.proofs.turns.spent_turns_were_few.Goals as goal

pub returns : goal.returns
returns c turns case old new reported comes spent = by case comes
  where
    by : (case : Case) → Produces turns case old new reported → HasFewTurns case turns
    by (Replays s lives) comes = few_turns c.runs_come_by_turns.ensures c.runs_end_for_a_cause.ensures c.enough_turns_end_a_run.ensures s All turns first lives reported comes.replayed spent
    by (Generates s lives) comes = few_turns c.runs_come_by_turns.ensures c.runs_end_for_a_cause.ensures c.enough_turns_end_a_run.ensures s Report turns first lives reported comes.replayed spent
    by (Runs s ticks) comes = tt
    by (Records s ticks) comes = tt
    by (Lists root) comes = tt
    by (Refuses other) comes = tt
