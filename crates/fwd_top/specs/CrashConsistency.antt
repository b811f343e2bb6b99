-- Crash consistency of the outcome of a case.
use Rattle.std.specs.Prelude.{◌≡◌, ℕ, true, List, [], Option}
use Rattle.fwd_outside.specs.AtCrashPoints.{AtCrashPoints}
use Rattle.fwd_outside.specs.DiskStates.{Files}
use Rattle.fwd_backlog.specs.Recovered.{AreDurable}
use Rattle.fwd_settings.specs.declared.settings_types.AllSettings.{AllSettings}
use Rattle.fwd_model.specs.Trace.{TraceEntry}
use Rattle.fwd_theorem_crash.specs.CrashPoint.{crash_point, LeadsTo}
use Rattle.fwd_theorem_crash.specs.Safety.{IsSafe}
use Rattle.fwd_theorem_survival.specs.Survival.{KeepsAccepted}
use Rattle.fwd_theorem_replay.specs.Crashes.{NothingIsLost}
use Rattle.fwd_replay.specs.LiveRun.{IsRunLive, RanToEnd, RanOutOfMemory}
use Rattle.fwd_replay.specs.Runs.{first}
use Rattle.fwd_replay.specs.declared.report.Reported.{Reported}
use Rattle.fwd_replay.specs.declared.report.Shown.TheVariants.{All, Report}
use Rattle.fwd_top.specs.Cases.{Case, Replays, Generates, Runs, Records, Lists, Refuses}
use Rattle.fwd_top.specs.Outcomes.{Platform, Produces, world}

-- with these settings, each append is fsynced
abbrev pub AreSynced : AllSettings → Type 0
AreSynced s = s.service.full ≡ true

-- Points of these calls, from each disk without unsynced state that could have answered this way.
pub record AreSafe (s : AllSettings) (entries : List TraceEntry) : Type 0 where
  -- whatever a crash leaves has the file of each pending chunk, whole
  pub files : (start : Files) → AreDurable start
      → AtCrashPoints LeadsTo (IsSafe s start) (crash_point [] start) entries
  -- and the next run has each batch that was accepted before; each message that was answered is one of these
  pub accepted : (start : Files) → AreDurable start
      → AtCrashPoints LeadsTo (KeepsAccepted s) (crash_point [] start) entries

-- a run over devices, with a call log or not, to its end or to where memory ran out
abbrev pub RunIsSafe : (s : AllSettings) (ticks : Option ℕ) (turns : ℕ) (old new : Platform)
    (reported : Reported) → IsRunLive s ticks turns (world old) (world new) reported → Type 0
RunIsSafe s ticks turns old new reported (RanToEnd run) = AreSynced s → AreSafe s run.trace
RunIsSafe s ticks turns old new reported (RanOutOfMemory begun none) =
    AreSynced s → AreSafe s begun.trace

-- the outcome of a case: no crash between the runs of a schedule loses a chunk, and each crash point of a
-- run is safe
abbrev pub IsCrashConsistent : (turns : ℕ) (case : Case) (old new : Platform) (reported : Reported)
    → Produces turns case old new reported → Type 0
IsCrashConsistent turns (Replays s lives) old new reported comes =
    AreSynced s → NothingIsLost All s turns first lives reported comes.replayed
IsCrashConsistent turns (Generates s lives) old new reported comes =
    AreSynced s → NothingIsLost Report s turns first lives reported comes.replayed
IsCrashConsistent turns (Runs s ticks) old new reported comes = RunIsSafe s ticks turns old new reported comes
IsCrashConsistent turns (Records s ticks) old new reported comes = Unit {0}
IsCrashConsistent turns (Lists root) old new reported comes = Unit {0}
IsCrashConsistent turns (Refuses other) old new reported comes = Unit {0}
