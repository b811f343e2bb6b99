-- What the program keeps of followed files across runs.
use Rattle.std.specs.Prelude.{◌≡◌, ℕ, ◌≤◌, ◌-◌, ◌^◌, false, List, [], ◌∷◌, ◌++◌, Contains, Option, Some}
use Rattle.fwd_outside.specs.Program.{entry}
use Rattle.fwd_outside.specs.Loop.{Wait}
use Rattle.fwd_outside.specs.declared.happening.Happening.{Happening}
use Rattle.fwd_settings.specs.declared.settings_types.AllSettings.{AllSettings}
use Rattle.fwd_script.specs.declared.schedule.Life.{Life}
use Rattle.fwd_model.specs.Trace.{TraceEntry, OnLoop, history_after}
use Rattle.fwd_model.specs.FollowedFiles.{file_at}
use Rattle.fwd_model.specs.KeptOffsets.{Tracked, tracked, kept_at}
use Rattle.fwd_theorem_trace.specs.Past.{past_after}
use Rattle.fwd_theorem_trace.specs.Waits.{waits_in}
use Rattle.fwd_theorem_offsets.specs.Passed.{ArePassed}
use Rattle.fwd_theorem_offsets.specs.KeptFiles.{IsAlone, SplitsAt, begun_at, last_given, was_cut}
use Rattle.fwd_replay.specs.LiveRun.{IsRunLive, RanToEnd, RanOutOfMemory}
use Rattle.fwd_replay.specs.Runs.{IsReplayed, Ended, WasCut, OutOfMemory, Start, first}
use Rattle.fwd_replay.specs.declared.report.Reported.{Reported}
use Rattle.fwd_replay.specs.declared.report.Shown.{Shown}
use Rattle.fwd_replay.specs.declared.report.Shown.TheVariants.{All, Report}
use Rattle.fwd_top.specs.Cases.{Case, Replays, Generates, Runs, Records, Lists, Refuses}
use Rattle.fwd_top.specs.Outcomes.{Platform, Produces, world}

-- What holds of the offsets of a run with these calls. Of two followed files with one database and path
-- only the first field speaks.
pub record KeepsOffsets (s : AllSettings) (entries : List TraceEntry) : Type 0 where
  -- each offset that is put has nothing lost before it
  pub passed : ArePassed s (past_after [] entries)
  -- What was read of a file that wasn't truncated splits at the offset that is kept: a run that resumes
  -- there reads all the rest.
  pub splits : (input index place : ℕ) → IsAlone s input index
      → kept_at (history_after entries []) input index ≡ Some place → place ≤ 2 ^ 64 - 1
      → was_cut s (history_after entries []) input index ≡ false
      → SplitsAt (file_at s (history_after entries []) input index) place
  -- at the first wait, each file is to be read from the offset that the keeper gave
  pub resumes : (before after : List TraceEntry) (until mask : ℕ) (brought : Happening) (file : Tracked)
      → entries ≡ before ++ entry (OnLoop (Wait until mask)) brought ∷ after → waits_in before ≡ 0
      → Contains (tracked s) file → IsAlone s file.input file.index
      → file_at s (history_after before []) file.input file.index
      ≡ begun_at (last_given (past_after [] before) file.db file.path)

-- of each run of a replay, up to its end or to the turn in which it is cut, which puts none
abbrev pub EachKeepsOffsets : (shown : Shown) (s : AllSettings) (turns : ℕ) (start : Start)
    (lives : List Life) (reported : Reported) → IsReplayed shown s turns start lives reported → Type 0
EachKeepsOffsets shown s turns start [] reported is = Unit {0}
EachKeepsOffsets shown s turns start (planned ∷ lives) reported (Ended ends) = KeepsOffsets s ends.trace
EachKeepsOffsets shown s turns start (planned ∷ lives) reported
    (WasCut c is rest more joins) =
    KeepsOffsets s c.before
    × EachKeepsOffsets shown s (turns - waits_in (c.before ++ c.turn)) c.next lives rest more
EachKeepsOffsets shown s turns start (planned ∷ lives) reported (OutOfMemory none) = Unit {0}

-- of a run over devices, to its end or to where memory ran out
abbrev pub RunKeepsOffsets : (s : AllSettings) (ticks : Option ℕ) (turns : ℕ) (old new : Platform)
    (reported : Reported) → IsRunLive s ticks turns (world old) (world new) reported → Type 0
RunKeepsOffsets s ticks turns old new reported (RanToEnd run) = KeepsOffsets s run.trace
RunKeepsOffsets s ticks turns old new reported (RanOutOfMemory begun none) =
    KeepsOffsets s begun.trace

-- of each run of the outcome of a case
abbrev pub EachRunKeepsOffsets : (turns : ℕ) (case : Case) (old new : Platform) (reported : Reported)
    → Produces turns case old new reported → Type 0
EachRunKeepsOffsets turns (Replays s lives) old new reported comes =
    EachKeepsOffsets All s turns first lives reported comes.replayed
EachRunKeepsOffsets turns (Generates s lives) old new reported comes =
    EachKeepsOffsets Report s turns first lives reported comes.replayed
EachRunKeepsOffsets turns (Runs s ticks) old new reported comes =
    RunKeepsOffsets s ticks turns old new reported comes
EachRunKeepsOffsets turns (Records s ticks) old new reported comes = Unit {0}
EachRunKeepsOffsets turns (Lists root) old new reported comes = Unit {0}
EachRunKeepsOffsets turns (Refuses other) old new reported comes = Unit {0}
