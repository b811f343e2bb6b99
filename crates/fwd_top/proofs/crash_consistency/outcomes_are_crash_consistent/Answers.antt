use Rattle.fwd_replay.specs.LiveRun.{RanToEnd, RanOutOfMemory}
use Rattle.fwd_settings.specs.Endpoints.{ends_of}
use Rattle.fwd_replay.specs.declared.report.Shown.TheVariants.{All, Report}
use Rattle.fwd_top.specs.Outcomes.{Produces}
use Rattle.fwd_theorem_replay.specs.PresetFiles.{OnlyFirstHasFiles}
use Rattle.fwd_top.specs.Cases.{AreSound, Case, Replays, Generates, Runs, Records, Lists, Refuses, lives_of, settings_for}
use Rattle.fwd_top.specs.CrashConsistency.{IsCrashConsistent}
use Rattle.fwd_top.proofs.crash_consistency.outcomes_are_crash_consistent.Goals as goal

pub returns : goal.returns
returns c turns case old new reported comes sound later = by case comes sound later
  where
    by : (case : Case) (comes : Produces turns case old new reported) → AreSound (settings_for case) → OnlyFirstHasFiles (lives_of case) → IsCrashConsistent turns case old new reported comes
    by (Replays s lives) comes sound later = λ synced. c.no_crash_loses_a_chunk.ensures All s turns lives reported sound synced later comes.replayed
    by (Generates s lives) comes sound later = λ synced. c.no_crash_loses_a_chunk.ensures Report s turns lives reported sound synced later comes.replayed
    by (Runs s ticks) (RanToEnd lived) sound later = λ synced. record {
      files = λ start fresh. c.crash_points_are_safe.ensures s (ends_of s) ticks turns start lived.trace _ sound synced fresh lived.way;
      accepted = λ start fresh. c.accepted_batches_survive.ensures s (ends_of s) ticks turns start lived.trace _ sound synced fresh lived.way;
    }
    by (Runs s ticks) (RanOutOfMemory begun none) sound later = λ synced. record {
      files = λ start fresh. c.crash_points_are_safe.ensures s (ends_of s) ticks turns start begun.trace begun.left sound synced fresh begun.way;
      accepted = λ start fresh. c.accepted_batches_survive.ensures s (ends_of s) ticks turns start begun.trace begun.left sound synced fresh begun.way;
    }
    by (Records s ticks) comes sound later = tt
    by (Lists root) comes sound later = tt
    by (Refuses other) comes sound later = tt
