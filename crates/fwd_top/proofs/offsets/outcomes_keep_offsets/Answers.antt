use Rattle.fwd_replay.specs.LiveRun.{RanToEnd, RanOutOfMemory}
use Rattle.fwd_settings.specs.Endpoints.{ends_of}
use Rattle.fwd_replay.specs.Runs.{first}
use Rattle.fwd_replay.specs.declared.report.Shown.TheVariants.{All, Report}
use Rattle.fwd_top.specs.Outcomes.{Produces}
use Rattle.fwd_top.specs.Cases.{Case, Replays, Generates, Runs, Records, Lists, Refuses}
use Rattle.fwd_top.specs.Offsets.{EachRunKeepsOffsets}
use Rattle.fwd_top.proofs.RunOffsets.{each_keeps_offsets, keeps_offsets}
use Rattle.fwd_top.proofs.offsets.outcomes_keep_offsets.Goals as goal

pub returns : goal.returns
returns c turns case old new reported comes = by case comes
  where
    by : (case : Case) (comes : Produces turns case old new reported) → EachRunKeepsOffsets turns case old new reported comes
    by (Replays s lives) comes = each_keeps_offsets c.put_offsets_are_passed.ensures c.kept_offsets_split_files.ensures c.runs_resume_at_kept_offsets.ensures.begun All s turns first lives reported comes.replayed
    by (Generates s lives) comes = each_keeps_offsets c.put_offsets_are_passed.ensures c.kept_offsets_split_files.ensures c.runs_resume_at_kept_offsets.ensures.begun Report s turns first lives reported comes.replayed
    by (Runs s ticks) (RanToEnd lived) = keeps_offsets c.put_offsets_are_passed.ensures c.kept_offsets_split_files.ensures c.runs_resume_at_kept_offsets.ensures.begun s (ends_of s) ticks turns lived.trace _ lived.way
    by (Runs s ticks) (RanOutOfMemory begun none) = keeps_offsets c.put_offsets_are_passed.ensures c.kept_offsets_split_files.ensures c.runs_resume_at_kept_offsets.ensures.begun s (ends_of s) ticks turns begun.trace begun.left begun.way
    by (Records s ticks) comes = tt
    by (Lists root) comes = tt
    by (Refuses other) comes = tt
