use Rattle.fwd_settings.specs.Endpoints.{ends_of}
use Rattle.fwd_replay.specs.LiveRun.{RanToEnd, RanOutOfMemory}
use Rattle.fwd_replay.specs.declared.report.Shown.TheVariants.{All, Report}
use Rattle.fwd_top.specs.Outcomes.{Produces}
use Rattle.fwd_top.specs.Cases.{AreSound, Case, Replays, Generates, Runs, Records, Lists, Refuses, settings_for}
use Rattle.fwd_top.specs.SentRecords.{EachRunSendsRecords}
use Rattle.fwd_top.proofs.sent_records.outcomes_send_records.Goals as goal

pub returns : goal.returns
returns c turns case old new reported comes sound = by case comes sound
  where
    by : (case : Case) (comes : Produces turns case old new reported) → AreSound (settings_for case) → EachRunSendsRecords turns case old new reported comes
    by (Replays s lives) comes sound = c.replays_send_their_records.ensures All s turns lives reported sound comes.replayed
    by (Generates s lives) comes sound = c.replays_send_their_records.ensures Report s turns lives reported sound comes.replayed
    by (Runs s ticks) (RanToEnd lived) sound = λ start last known along. c.flushes_send_their_records.ensures s (ends_of s) ticks turns start lived.trace _ last sound known lived.way along lived.answers.bytes
    by (Runs s ticks) (RanOutOfMemory begun none) sound = λ start last known along. c.flushes_send_their_records.ensures s (ends_of s) ticks turns start begun.trace begun.left last sound known begun.way along begun.answers.bytes
    by (Records s ticks) comes sound = tt
    by (Lists root) comes sound = tt
    by (Refuses other) comes sound = tt
