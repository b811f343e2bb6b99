-- The outcome of the runs of a schedule.
use Rattle.std.specs.Prelude.{◌≡◌, ℕ, ◌+◌, ◌-◌, ◌<◌, ◌%◌, Bool, true, false, ◌&&◌, List, [], ◌∷◌, ◌++◌, map, take, Some, None, is_some}
use Rattle.fwd_outside.specs.Program.{Return, Execution}
use Rattle.fwd_outside.specs.File.{content}
use Rattle.fwd_outside.specs.LoopAnswers.{AreLoopAnswers}
use Rattle.fwd_disk_mem.specs.declared.entry.MemEntry.{MemEntry}
use Rattle.fwd_disk_mem.specs.declared.entry.MemEntry.TheVariants.{Preset, FailAt}
use Rattle.fwd_disk_mem.specs.Entry as disk
use Rattle.fwd_disk_mem.specs.FileTable.{MemFile}
use Rattle.fwd_disk_mem.specs.Images.{picked, file_settings, reach}
use Rattle.fwd_keeper.specs.Keeper.{KeeperGiven}
use Rattle.fwd_keeper_mem.specs.KeeperAnswers as keeper
use Rattle.fwd_keeper_mem.specs.KeeperAnswers.{offsets_after_all}
use Rattle.fwd_keeper_mem.specs.Offsets.{SameOffsets}
use Rattle.fwd_settings.specs.Endpoints.{ends_of}
use Rattle.fwd_settings.specs.declared.settings_types.AllSettings.{AllSettings}
use Rattle.fwd_script.specs.declared.schedule.Cut.{Cut}
use Rattle.fwd_files_mem.specs.declared.change.FileChange.{FileChange}
use Rattle.fwd_script.specs.declared.schedule.Life.{Life}
use Rattle.fwd_script.specs.declared.schedule.Stored.{Stored}
use Rattle.fwd_script_loop.specs.Lines.{coming, given_of}
use Rattle.fwd_script_loop.specs.Place as place
use Rattle.fwd_model.specs.Fact.{History}
use Rattle.fwd_model.specs.Trace.{TraceEntry, loop_part, disk_part, keeper_part}
use Rattle.fwd_model.specs.Limits.{paused}
use Rattle.fwd_model.specs.Run.{Over, TurnsSpent, RunResult, lived, life}
use Rattle.fwd_theorem_trace.specs.Waits.{waits_in}
use Rattle.fwd_theorem_crash.specs.StepBoundaries.{turn}
use Rattle.fwd_secure.specs.Handshakes.{Handshakes, no_handshakes}
use Rattle.fwd_secure.specs.Kept.{holds}
use Rattle.fwd_secure_settings.specs.Keys.{keys_of}
use Rattle.fwd_secure_trace.specs.Secured.{IsSecured}
use Rattle.fwd_replay.specs.FileChanges.{Course, course_after, FilesAnswered, is_last_next, has_last}
use Rattle.fwd_replay.specs.Text.{life_text, reported_by, out_of_memory, joined}
use Rattle.fwd_replay.specs.declared.report.Reported.{Reported}
use Rattle.fwd_replay.specs.declared.report.Ending.TheVariants as ending
use Rattle.fwd_replay.specs.declared.report.Shown.{Shown}

-- the state of the platform when a run begins: the calls on the disk, which has no unsynced state, the
-- changes of files so far, and the offsets that the keeper has
pub record Start : Type 0 where
  pub disk : List MemEntry
  pub changes : List FileChange
  pub offsets : KeeperGiven

-- an empty disk, no files and no offsets
abbrev pub first : Start
first = record { disk = []; changes = []; offsets = [] }

-- the calls of the setup are added to those of the disk: the files put on it, and the calls that are to
-- fail
abbrev pub disk_of : Start → Life → List MemEntry
disk_of start planned =
    start.disk ++ map (λ (file : Stored). Preset file.name file.bytes) planned.store
    ++ map (λ (number : ℕ). FailAt number) planned.disk_fails

abbrev pub course_of : Start → Life → Course
course_of start planned = record {
  lines = planned.lines;
  ahead = coming 0 planned.lines;
  changed = 0;
  files = record { changes = start.changes; fails = planned.file_fails; calls = 0 };
}

-- The answers to these calls are those of the run: of its loop, of the disk after these calls, of the files,
-- and of the keeper, which fails no call.
pub record IsAnswered (start : Start) (planned : Life) (trace : List TraceEntry)
    (asked : List MemEntry) : Type 0 where
  pub loop : place.IsPlayed (given_of planned) (loop_part trace)
  pub are : disk.entries_of asked ≡ disk_part trace
  pub disk : disk.IsPlayed (disk_of start planned) asked
  pub files : FilesAnswered (course_of start planned) trace
  pub keeper : keeper.IsPlayed start.offsets [] (keeper_part trace)

-- one of these calls is a wait that returns the event in which the run is cut
abbrev pub has_cut : Start → Life → List TraceEntry → Bool
has_cut start planned trace = is_some planned.cut && has_last (course_of start planned) trace

-- ---- a run that isn't cut

-- The trace of its engine and its result, with at most `turns` turns. The devices answered as the schedule
-- says, with the keyed loop between them and the engine.
pub record IsLife (s : AllSettings) (turns : ℕ) (start : Start) (planned : Life) (trace : List TraceEntry)
    (comes : RunResult) : Type 0 where
  pub way : Execution (life s (ends_of s) None turns) trace (Return comes)
  pub answers : AreLoopAnswers (loop_part trace)
  -- the calls on the devices, and the handshakes after them
  pub below : List TraceEntry
  pub handshakes : Handshakes
  pub secured : IsSecured (keys_of s) no_handshakes trace below handshakes
  pub asked : List MemEntry
  pub answered : IsAnswered start planned below asked
  pub uncut : has_cut start planned below ≡ false

-- The replay ends with this run. One that is over isn't to be cut.
pub record EndsIn (shown : Shown) (s : AllSettings) (turns : ℕ) (start : Start) (planned : Life)
    (replayed : Reported) : Type 0 where
  pub trace : List TraceEntry
  pub comes : RunResult
  pub is : IsLife s turns start planned trace comes
  pub last : comes.end ≡ Over → planned.cut ≡ None
  pub reports : replayed ≡ reported_by (life_text shown s is.below comes.history) comes.end

-- ---- a run that is cut

-- The turn in which it is cut: the run has that many turns left, and the turn's wait takes the event from
-- the schedule, as no kept bytes come first. No offset is put after it. If the run is over before, the turn
-- makes no call. In this turn a `failed` line is no failure of the loop.
pub data IsCutIn (s : AllSettings) (turns : ℕ) (before : List TraceEntry) (h : History)
    (k : Handshakes) (course : Course) (calls : List TraceEntry) : Type 0 where
  InTurn : waits_in before < turns
      → Execution (life s (ends_of s) None (waits_in before)) before (Return (lived h TurnsSpent))
      → holds (paused s h) k.kept ≡ false → is_last_next (paused s h) course ≡ true
      → (last : History) → Execution (turn s h) calls (Return last)
      → IsCutIn s turns before h k course calls
  WasOver : Execution (life s (ends_of s) None turns) before (Return (lived h Over)) → calls ≡ []
      → IsCutIn s turns before h k course calls

-- the first of these calls, that many
abbrev pub first_calls : ℕ → List MemEntry → List MemEntry
first_calls n calls = take (reach n calls) calls

-- a run that is cut, and the state of the platform after the crash
pub record CutRun : Type 0 where
  pub cut : Cut
  pub before : List TraceEntry
  pub history : History
  pub turn : List TraceEntry
  -- the calls on the devices before the turn, and in it, and the handshakes before and after it
  pub below : List TraceEntry
  pub below_in : List TraceEntry
  pub handshakes : Handshakes
  pub handshakes_last : Handshakes
  -- those on the disk before the turn, and in it
  pub asked : List MemEntry
  pub asked_in : List MemEntry
  pub next : Start

-- The disk is then in a post-crash state of the disk after that many calls of the turn, chosen by the
-- pick; the files and the offsets are unchanged.
pub record IsCut (s : AllSettings) (turns : ℕ) (start : Start) (planned : Life) (c : CutRun) : Type 0 where
  pub is : planned.cut ≡ Some c.cut
  pub cut_in : IsCutIn s turns c.before c.history c.handshakes
      (course_after (course_of start planned) c.below) c.turn
  pub answers : AreLoopAnswers (loop_part (c.before ++ c.turn))
  pub secured : IsSecured (keys_of s) no_handshakes c.before c.below c.handshakes
  pub secured_in : IsSecured (keys_of s) c.handshakes c.turn c.below_in c.handshakes_last
  pub uncut : has_cut start planned c.below ≡ false
  pub answered : IsAnswered start planned (c.below ++ c.below_in) (c.asked ++ c.asked_in)
  pub are : disk.entries_of c.asked ≡ disk_part c.below
  pub files : List MemFile
  pub disk_is : c.next.disk ≡ file_settings files
  pub image : (name : List ℕ)
      → content (disk.files_of c.next.disk name)
      ≡ picked (c.cut.pick % 4)
      ((disk_of start planned ++ c.asked) ++ first_calls c.cut.calls c.asked_in) name
  pub changes : c.next.changes
      ≡ (course_after (course_of start planned) (c.below ++ c.below_in)).files.changes
  pub offsets : SameOffsets (offsets_after_all start.offsets (keeper_part (c.below ++ c.below_in)))
      c.next.offsets

-- The replay ends with this run; or the run is cut, and the next ones follow with the turns that are left; or
-- memory ran out in it, and nothing of it is in the text. `Next turns start rest` says that the next runs are
-- replayed with so many turns from this state on, to this text.
pub data IsRunReplayed (shown : Shown) (s : AllSettings) (turns : ℕ) (start : Start) (planned : Life)
    (Next : ℕ → Start → Reported → Type 0) (replayed : Reported) : Type 0 where
  Ended : EndsIn shown s turns start planned replayed
      → IsRunReplayed shown s turns start planned Next replayed
  WasCut : (c : CutRun) → IsCut s turns start planned c → (rest : Reported)
      → Next (turns - waits_in (c.before ++ c.turn)) c.next rest
      → replayed ≡ joined (life_text shown s c.below c.history) c.cut rest
      → IsRunReplayed shown s turns start planned Next replayed
  OutOfMemory : replayed ≡ out_of_memory → IsRunReplayed shown s turns start planned Next replayed

-- each run in turn, with at most `turns` turns in all
abbrev pub IsReplayed : Shown → AllSettings → ℕ → Start → List Life → Reported → Type 0
IsReplayed shown s turns start [] replayed = replayed ≡ record { text = []; ending = ending.Over }
IsReplayed shown s turns start (planned ∷ lives) replayed =
    IsRunReplayed shown s turns start planned
    (λ left next rest. IsReplayed shown s left next lives rest) replayed
