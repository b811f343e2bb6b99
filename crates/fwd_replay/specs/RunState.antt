-- The state of a run of a schedule while it is replayed.
use Rattle.std.specs.Prelude.{◌≡◌, ℕ, ◌+◌, ◌-◌, ◌<◌, ◌%◌, Bool, true, false, if◌then◌else◌, List, [], ◌∷◌, ◌++◌, Option, Some, None, Result, Ok, Err}
use Rattle.fwd_outside.specs.LoopAnswers.{AreLoopAnswers}
use Rattle.fwd_outside.specs.Program.{entry, Return, Execution}
use Rattle.fwd_outside.specs.File.{content}
use Rattle.fwd_outside.specs.Files.{found}
use Rattle.fwd_outside.specs.Loop.{LoopEntry, LoopLog, Start as Starting}
use Rattle.fwd_outside.specs.declared.answers.Begun.{Begun as LoopBegun}
use Rattle.fwd_outside.specs.declared.answers.Begun.TheVariants as loop_begun
use Rattle.fwd_outside.specs.declared.ends.Ends.{Ends}
use Rattle.fwd_outside.specs.declared.happening.Happening.{Happening}
use Rattle.fwd_disk_mem.specs.declared.entry.MemEntry.{MemEntry}
use Rattle.fwd_disk_mem.specs.Images.{picked, file_settings, prefix_after_mark}
use Rattle.fwd_disk_mem.specs.DiskState.{Seen}
use Rattle.fwd_disk_mem.specs.FileTable.{MemFile}
use Rattle.fwd_disk_mem.specs.Entry as disk
use Rattle.fwd_keeper_mem.specs.KeeperAnswers as keeper
use Rattle.fwd_keeper_mem.specs.KeeperState.{KeeperState}
use Rattle.fwd_keeper_mem.specs.MemKeeper as offsets
use Rattle.fwd_keeper_mem.specs.MemKeeper.{offsets_now}
use Rattle.fwd_keeper_mem.specs.Offsets.{SameOffsets}
use Rattle.fwd_settings.specs.Endpoints.{ends_of}
use Rattle.fwd_settings.specs.declared.settings_types.AllSettings.{AllSettings}
use Rattle.fwd_files_mem.specs.FilesState.{FilesState}
use Rattle.fwd_files_mem.specs.FilesAnswers.{fails_of, made_of}
use Rattle.fwd_files_mem.specs.MemFiles.{SameFiles, entries_from, files_now}
use Rattle.fwd_files_mem.specs.MemFiles as files
use Rattle.fwd_script.specs.declared.schedule.Cut.{Cut}
use Rattle.fwd_script.specs.declared.schedule.Life.{Life}
use Rattle.fwd_script_loop.specs.ScriptRun.{told_of}
use Rattle.fwd_script_loop.specs.Lines.{given_in, given_of}
use Rattle.fwd_script_loop.specs.Place as place
use Rattle.fwd_script_loop.specs.ScriptState.{ScriptState}
use Rattle.fwd_script_loop.specs.Told.{entries_of}
use Rattle.fwd_script_loop.specs.LinkBytes.{handed}
use Rattle.fwd_secure.specs.Handshakes.{no_handshakes}
use Rattle.fwd_secure.specs.Kept.{holds}
use Rattle.fwd_secure.specs.Secure.{Secure, IsSecure, log_of}
use Rattle.fwd_secure_settings.specs.Keys.{keys_of}
use Rattle.fwd_secure_trace.specs.Secured.{IsSecured}
use Rattle.fwd_model.specs.Fact.{History}
use Rattle.fwd_model.specs.Trace.{Action, TraceEntry, loop_part, disk_part, files_part, keeper_part}
use Rattle.fwd_model.specs.CallLogs.{CallLogs}
use Rattle.fwd_model.specs.Limits.{paused}
use Rattle.fwd_model.specs.RecoveryActions.{recovers}
use Rattle.fwd_model.specs.Run.{Over, DiskFailed, KeeperFailed, LoopFailed, RunResult, lived, is_over, after_step, run, starts, life}
use Rattle.fwd_engine_state.specs.RefinesAction.{with_all}
use Rattle.fwd_engine_run.specs.EngineSteps.{IsAt, TurnOutcome, as_turn}
use Rattle.fwd_engine_run.specs.EngineStop.{EngineStop}
use Rattle.fwd_engine_run.specs.EngineStop.TheVariants as stop
use Rattle.fwd_engine_run.specs.Turn.{Turn}
use Rattle.fwd_engine_run.specs.Turn.TheVariants as turn
use Rattle.fwd_engine_run.specs.OffsetRows.{Keeps}
use Rattle.fwd_theorem_trace.specs.Waits.{waits_in}
use Rattle.fwd_replay.specs.FileChanges.{Course, FilesAt, content_after, course_after, after_wait, FilesAnswered, is_last_next}
use Rattle.fwd_replay.specs.Runs.{Start, CutRun, IsLife, EndsIn, IsCut, course_of, disk_of, first, has_cut}
use Rattle.fwd_replay.specs.Names.{printed_mask}
use Rattle.fwd_replay.specs.Text.{life_text, after_crash, report, with_line_end}
use Rattle.fwd_replay.specs.declared.progress.Going.{Going}
use Rattle.fwd_replay.specs.declared.start.Begun.{Begun}
use Rattle.fwd_replay.specs.declared.start.StartErr.{StartErr}
use Rattle.fwd_replay.specs.declared.start.StartErr.TheVariants as start_err
use Rattle.fwd_replay.specs.declared.turns.TurnsEnd.{TurnsEnd}
use Rattle.fwd_replay.specs.declared.turns.TurnsEnd.TheVariants as turns_end
use Rattle.fwd_replay.specs.declared.life.Came.{Came}
use Rattle.fwd_replay.specs.declared.life.LifeEnd.{LifeEnd}
use Rattle.fwd_replay.specs.declared.life.LifeEnd.TheVariants as life_end
use Rattle.fwd_replay.specs.declared.life.Next.{Next}
use Rattle.fwd_replay.specs.declared.life.Next.TheVariants as follow
use Rattle.fwd_replay.specs.declared.life.Outcome.{Outcome}
use Rattle.fwd_replay.specs.declared.runs.After.{After}
use Rattle.fwd_replay.specs.declared.runs.After.TheVariants as afterwards
use Rattle.fwd_replay.specs.declared.runs.Between.{Between}
use Rattle.fwd_replay.specs.declared.report.Shown.{Shown}

-- files in memory are in this state
pub record FilesRepresent (held : FilesState) (files : FilesAt) : Type 0 where
  pub has : (path : List ℕ)
      → found (files_now held.given held.notes) path ≡ content_after None files.changes path
  pub made : made_of (entries_from held.given held.notes) ≡ files.calls
  pub fails : fails_of (entries_from held.given held.notes) ≡ files.fails

-- Before its wait a run makes the changes in the lines before the event that the wait takes from the schedule.
-- A wait that gives kept bytes takes none.
abbrev pub before_wait : Bool → ℕ → Course → Course
before_wait true paused course = course
before_wait false paused course = after_wait paused course

-- the wait takes the last event of the run from the schedule
abbrev pub takes_last : Bool → ℕ → Course → Bool
takes_last true paused course = false
takes_last false paused course = is_last_next paused course

-- The keyed loop of a run wraps a loop in memory, of which it was made before the first call. These are the
-- calls of the engine on it and those that it made below.
pub record IsKeyedLoop (s : AllSettings) (planned : Life) (secure : Secure)
    (calls calls_below : List LoopEntry) : Type 0 where
  pub keys : secure.keys ≡ keys_of s
  pub memory : secure.out_of_memory ≡ false
  pub start : secure.start.call_log ≡ Some (given_of planned, [])
  pub above : secure.above ≡ calls
  pub below : secure.below.call_log ≡ Some (given_of planned, calls_below)
  pub played : place.IsPlayed (given_of planned) calls_below

-- A run has taken that many turns, with this trace of its engine and these calls on its devices, and `left` is
-- left of it, whatever number of turns it has left. Loop, disk, files and keeper have these calls in their
-- logs; the files are in this state.
pub record RunRepresents (s : AllSettings) (start : Start) (planned : Life) (secure : Secure) (taken : ℕ)
    (seen : Seen) (held : FilesState) (kept : KeeperState) (trace below : List TraceEntry)
    (left : ℕ → Action RunResult) (files_at : FilesAt) : Type 0 where
  pub way : (more : ℕ) → Execution (life s (ends_of s) None (taken + more)) trace (left more)
  pub waits : waits_in trace ≡ taken
  pub secured : IsSecured (keys_of s) no_handshakes trace below secure.state
  pub answers : AreLoopAnswers (loop_part trace)
  pub loop : IsKeyedLoop s planned secure (loop_part trace) (loop_part below)
  pub uncut : has_cut start planned below ≡ false
  pub asked : List MemEntry
  pub disk_is : seen.calls ≡ disk_of start planned ++ asked
  pub are : disk.entries_of asked ≡ disk_part below
  pub answered : FilesAnswered (course_of start planned) below
  pub files_stand : FilesRepresent held files_at
  pub kept_given : kept.given ≡ start.offsets
  pub kept_calls : offsets.entries_of kept.notes ≡ keeper_part below

-- the run is to take its next turn
pub record IsInProgress (s : AllSettings) (start : Start) (planned : Life) (going : Going) (seen : Seen)
    (held : FilesState) (kept : KeeperState) : Type 0 where
  pub history : History
  pub at : IsAt going.engine s history
  pub trace : List TraceEntry
  pub below : List TraceEntry
  pub stands : RunRepresents s start planned going.secure going.taken seen held kept trace below
      (λ more. run s None more history) (course_after (course_of start planned) below).files
  pub changed : going.changed ≡ (course_after (course_of start planned) below).changed
  pub keeps : Keeps s going.offsets history

-- the changes before its wait are made, and this crash, if there is one, cuts the run in it
pub record IsReady (s : AllSettings) (start : Start) (planned : Life) (going : Going) (seen : Seen)
    (held : FilesState) (kept : KeeperState) (cut : Option Cut) : Type 0 where
  pub history : History
  pub at : IsAt going.engine s history
  pub trace : List TraceEntry
  pub below : List TraceEntry
  pub stands : RunRepresents s start planned going.secure going.taken seen held kept trace below
      (λ more. run s None more history)
      (before_wait (holds (paused s history) going.secure.state.kept) (paused s history)
      (course_after (course_of start planned) below)).files
  pub changed : going.changed
      ≡ (before_wait (holds (paused s history) going.secure.state.kept) (paused s history)
      (course_after (course_of start planned) below)).changed
  pub cut_is : cut
      ≡ (if takes_last (holds (paused s history) going.secure.state.kept) (paused s history)
      (course_after (course_of start planned) below) then planned.cut else None)
  pub keeps : Keeps s going.offsets history

-- the step of a turn is made, and after the puts the run is over or takes its next turn
pub record IsStepped (s : AllSettings) (start : Start) (planned : Life) (going : Going) (seen : Seen)
    (held : FilesState) (kept : KeeperState) (which : Turn) : Type 0 where
  pub history : History
  pub at : IsAt going.engine s history
  pub trace : List TraceEntry
  pub below : List TraceEntry
  pub brought : Happening
  pub stands : RunRepresents s start planned going.secure going.taken seen held kept trace below
      (λ more. after_step s None (run s None more) brought history)
      (course_after (course_of start planned) below).files
  pub changed : going.changed ≡ (course_after (course_of start planned) below).changed
  pub keeps : Keeps s going.offsets history
  pub over : which ≡ as_turn (is_over s brought history)

-- the run is over
pub record IsOver (s : AllSettings) (start : Start) (planned : Life) (going : Going) (seen : Seen)
    (held : FilesState) (kept : KeeperState) : Type 0 where
  pub history : History
  pub at : IsAt going.engine s history
  pub trace : List TraceEntry
  pub below : List TraceEntry
  pub stands : RunRepresents s start planned going.secure going.taken seen held kept trace below
      (λ more. Return (lived history Over)) (course_after (course_of start planned) below).files

-- its loop failed
pub record LoopHasFailed (s : AllSettings) (start : Start) (planned : Life) (going : Going) (seen : Seen)
    (held : FilesState) (kept : KeeperState) : Type 0 where
  pub history : History
  pub trace : List TraceEntry
  pub below : List TraceEntry
  pub stands : RunRepresents s start planned going.secure going.taken seen held kept trace below
      (λ more. Return (lived history LoopFailed)) (course_after (course_of start planned) below).files

-- the calls logged by the keyed loop, disk and files in memory, and no others
abbrev pub nowhere : CallLogs
nowhere = record { loop = None; disk = None; files = None; keeper = None }

abbrev pub memory : Secure → Seen → FilesState → CallLogs
memory secure seen held = with_all (log_of secure) (disk.log_of seen.calls) (files.told_of held) nowhere

-- a loop in memory with this log answered as its lines and answers say
abbrev pub ScriptPlays : LoopLog → Type 0
ScriptPlays log =
    (script : ScriptState) × (told_of script ≡ log)
    × place.IsPlayed (given_in script.lines script.answers) (entries_of script.notes)

-- disk and keeper in memory answered as the schedule says
pub record HaveAnswered (seen : Seen) (kept : KeeperState) : Type 0 where
  pub disk : disk.IsPlayed [] seen.calls
  pub keeper : keeper.IsPlayed kept.given [] (offsets.entries_of kept.notes)

-- the bytes that links of these outputs took, by the log of a loop in memory
abbrev pub HandsBytes : LoopLog → ℕ → List ℕ → Type 0
HandsBytes log outputs bytes =
    (script : ScriptState) × (told_of script ≡ log) × (bytes ≡ handed outputs [] (entries_of script.notes))

-- the text of a run with this history, by the log of its loop in memory
abbrev pub IsTextOf : Shown → AllSettings → LoopLog → History → List ℕ → Type 0
IsTextOf shown s log h text =
    (bytes : List ℕ) × HandsBytes log (printed_mask shown s.outputs) bytes
    × (text ≡ with_line_end bytes ++ report s h)

-- memory ran out in a turn
abbrev pub is_out_of_memory : Result Turn EngineStop → Bool
is_out_of_memory (Ok which) = false
is_out_of_memory (Err stop.LoopFault) = false
is_out_of_memory (Err stop.Memory) = true

-- a turn of an engine at this history, in which memory didn't run out
pub record TookTurn (s : AllSettings) (h : History) (old : Going) (seen : Seen) (held : FilesState) (new : Going)
    (seen2 : Seen) (held2 : FilesState) (result : Result Turn EngineStop) : Type 0 where
  pub was : IsSecure old.secure
  pub is : IsSecure new.secure
  pub has_memory : new.secure.out_of_memory ≡ false
  pub played : ScriptPlays new.secure.below.call_log
  pub turn : TurnOutcome (memory old.secure seen held) (memory new.secure seen2 held2) s h new.engine result

abbrev pub TurnedIn : AllSettings → History → Going → Seen → FilesState → Going → Seen → FilesState
    → Result Turn EngineStop → Type 0
TurnedIn s h old seen held new seen2 held2 result =
    is_out_of_memory result ≡ false → TookTurn s h old seen held new seen2 held2 result

-- the result of a turn in which the run isn't cut; nothing is claimed if memory ran out
abbrev pub Turned : AllSettings → Start → Life → Going → Seen → FilesState → KeeperState
    → Result Turn EngineStop → Type 0
Turned s start planned going seen held kept (Ok which) = IsStepped s start planned going seen held kept which
Turned s start planned going seen held kept (Err stop.LoopFault) =
    LoopHasFailed s start planned going seen held kept
Turned s start planned going seen held kept (Err stop.Memory) = Unit {0}

-- after the puts of a turn
abbrev pub HasPut : AllSettings → Start → Life → Going → Seen → FilesState → KeeperState → Turn → Type 0
HasPut s start planned going seen held kept turn.More = IsInProgress s start planned going seen held kept
HasPut s start planned going seen held kept turn.Over = IsOver s start planned going seen held kept

-- the result of at most that many of its turns
abbrev pub Ended : AllSettings → Start → Life → ℕ → Going → Seen → FilesState → KeeperState → TurnsEnd
    → Type 0
Ended s start planned most going seen held kept turns_end.Over =
    IsOver s start planned going seen held kept
Ended s start planned most going seen held kept (turns_end.Cut cut) =
    IsReady s start planned going seen held kept (Some cut) × (going.taken < most)
Ended s start planned most going seen held kept turns_end.LoopFailed =
    LoopHasFailed s start planned going seen held kept
Ended s start planned most going seen held kept turns_end.TurnsSpent =
    IsInProgress s start planned going seen held kept × (going.taken ≡ most)

-- a run that ended this way, with any number of turns
pub record EndedAs (s : AllSettings) (start : Start) (planned : Life) (comes : RunResult) : Type 0 where
  pub trace : List TraceEntry
  pub is : (turns : ℕ) → IsLife s turns start planned trace comes

-- the disk of a run was recovered with this history, by calls on the disk alone
pub record IsRecovered (s : AllSettings) (start : Start) (planned : Life) (seen : Seen)
    (h : History) : Type 0 where
  pub trace : List TraceEntry
  pub way : Execution (recovers s) trace (Return (Some h))
  pub no_loop : loop_part trace ≡ []
  pub no_files : files_part trace ≡ []
  pub no_keeper : keeper_part trace ≡ []
  pub asked : List MemEntry
  pub disk_is : seen.calls ≡ disk_of start planned ++ asked
  pub are : disk.entries_of asked ≡ disk_part trace
  pub played : disk.IsPlayed [] seen.calls

-- an engine has begun, and its offsets are got
pub record HasBegun (s : AllSettings) (start : Start) (planned : Life) (begun : Begun) (h : History) (seen : Seen)
    (held : FilesState) (kept : KeeperState) : Type 0 where
  pub at : IsAt begun.engine s h
  pub keeps : Keeps s begun.offsets h
  pub trace : List TraceEntry
  pub way : (turns : ℕ) → Execution (life s (ends_of s) None turns) trace (starts s (ends_of s) None turns h)
  pub no_loop : loop_part trace ≡ []
  pub no_files : files_part trace ≡ []
  pub asked : List MemEntry
  pub disk_is : seen.calls ≡ disk_of start planned ++ asked
  pub are : disk.entries_of asked ≡ disk_part trace
  pub disk : disk.IsPlayed (disk_of start planned) asked
  pub files : FilesRepresent held (course_of start planned).files
  pub kept_given : kept.given ≡ start.offsets
  pub kept_calls : offsets.entries_of kept.notes ≡ keeper_part trace
  pub keeper : keeper.IsPlayed start.offsets [] (keeper_part trace)

-- how a run begins; nothing is claimed if memory ran out
abbrev pub Begins : AllSettings → Start → Life → Seen → FilesState → KeeperState → Result Begun StartErr → Type 0
Begins s start planned seen held kept (Ok begun) =
    (h : History) × HasBegun s start planned begun h seen held kept
Begins s start planned seen held kept (Err start_err.DiskFailed) =
    EndedAs s start planned (lived [] DiskFailed)
Begins s start planned seen held kept (Err start_err.KeeperFailed) =
    (history : History) × EndedAs s start planned (lived history KeeperFailed)
Begins s start planned seen held kept (Err start_err.Memory) = Unit {0}

-- a keyed loop around the loop of a run, of which nothing was asked
pub record IsFresh (s : AllSettings) (planned : Life) (secure : Secure) : Type 0 where
  pub keys : secure.keys ≡ keys_of s
  pub start : secure.start.call_log ≡ Some (given_of planned, [])
  pub above : secure.above ≡ []

-- it was started with these endpoints, with this answer
pub record WasStarted (s : AllSettings) (planned : Life) (ends : Ends) (answer : Option (Unit {0}))
    (secure : Secure) : Type 0 where
  pub keys : secure.keys ≡ keys_of s
  pub start : secure.start.call_log ≡ Some (given_of planned, [])
  pub above : secure.above ≡ entry (Starting ends) answer ∷ []
  pub memory : secure.out_of_memory ≡ false
  pub is : IsSecure secure
  pub played : ScriptPlays secure.below.call_log

abbrev pub KeyedLoopStarts : AllSettings → Life → Ends → Secure → LoopBegun → Type 0
KeyedLoopStarts s planned ends secure loop_begun.Ready = WasStarted s planned ends (Some tt) secure
KeyedLoopStarts s planned ends secure loop_begun.Failed = WasStarted s planned ends None secure
KeyedLoopStarts s planned ends secure loop_begun.Memory = Unit {0}

-- disk, files and keeper are in the state in which a run finds them
pub record DevicesAreReady (start : Start) (seen : Seen) (held : FilesState) (kept : KeeperState) : Type 0 where
  pub disk : seen.calls ≡ start.disk
  pub has : (path : List ℕ)
      → found (files_now held.given held.notes) path ≡ content_after None start.changes path
  pub unasked : held.notes ≡ []
  pub kept_given : kept.given ≡ start.offsets
  pub kept_unasked : kept.notes ≡ []

-- they are set up for the run
pub record IsSetUp (start : Start) (planned : Life) (seen : Seen) (held : FilesState)
    (kept : KeeperState) : Type 0 where
  pub disk : seen.calls ≡ disk_of start planned
  pub files : FilesRepresent held (course_of start planned).files
  pub kept_given : kept.given ≡ start.offsets
  pub kept_unasked : kept.notes ≡ []

-- the disk after a crash has one post-crash state of the disk after that many calls, chosen by the pick
pub record IsCrashed (since : ℕ) (cut : Cut) (now image : Seen) : Type 0 where
  pub files : List MemFile
  pub is : image.calls ≡ file_settings files
  pub picks : (name : List ℕ)
      → content (disk.files_of image.calls name)
      ≡ picked (cut.pick % 4) (prefix_after_mark since cut.calls now.calls) name

-- the same files, with an empty call log
pub record AreRenewed (held renewed : FilesState) : Type 0 where
  pub same : SameFiles (files_now held.given held.notes) (files_now renewed.given renewed.notes)
  pub unasked : renewed.notes ≡ []

-- the same offsets, with an empty call log
pub record OffsetsAreRenewed (kept renewed : KeeperState) : Type 0 where
  pub same : SameOffsets (offsets_now kept.given kept.notes) renewed.given
  pub unasked : renewed.notes ≡ []

-- The crash of a run with this history and these calls on its devices before the turn in which it was cut: what it
-- leaves to the next run, and the state of its engine.
pub record HandsOver (s : AllSettings) (most : ℕ) (start : Start) (planned : Life) (cut : Cut) (going : Going)
    (history : History) (before : List TraceEntry) (seen : Seen) (held : FilesState)
    (kept : KeeperState) : Type 0 where
  pub cuts : CutRun
  pub is : IsCut s most start planned cuts
  pub cut_is : cuts.cut ≡ cut
  pub history_is : cuts.history ≡ history
  pub below_is : cuts.below ≡ before
  pub finds : DevicesAreReady cuts.next seen held kept
  pub waits : waits_in (cuts.before ++ cuts.turn) ≡ going.taken
  pub now : History
  pub at : IsAt going.engine s now

-- The outcome of a run in progress, with at most `most` turns, by its text and its end: the replay ends
-- with it, or it was cut and leaves this.
abbrev pub EndsBy : Shown → AllSettings → ℕ → Start → Life → Going → Seen → FilesState → KeeperState → List ℕ
    → LifeEnd → Type 0
EndsBy shown s most start planned going seen held kept text (life_end.Ends ending) =
    EndsIn shown s most start planned (record { text = text; ending = ending })
EndsBy shown s most start planned going seen held kept text (life_end.Cut cut) =
    (history : History) × (before : List TraceEntry)
    × HandsOver s most start planned cut going history before seen held kept
    × (text ≡ life_text shown s before history)

abbrev pub EndsAs : Shown → AllSettings → ℕ → Start → Life → Going → Seen → FilesState → KeeperState → Came
    → Type 0
EndsAs shown s most start planned going seen held kept came =
    EndsBy shown s most start planned going seen held kept came.text came.end

-- The outcome of a run with at most `most` turns, by its text and what follows: nothing, or it was cut
-- and leaves this to the next one.
abbrev pub ProducesText : Shown → AllSettings → ℕ → Start → Life → Seen → FilesState → KeeperState → List ℕ → Next
    → Type 0
ProducesText shown s most start planned seen held kept text (follow.Ends ending) =
    EndsIn shown s most start planned (record { text = text; ending = ending })
ProducesText shown s most start planned seen held kept text (follow.Life left) =
    (c : CutRun) × IsCut s most start planned c × (text ≡ life_text shown s c.below c.history)
    × (left.cut ≡ c.cut) × (left.settings ≡ s)
    × DevicesAreReady c.next seen held kept × (left.taken ≡ waits_in (c.before ++ c.turn))

abbrev pub ProducesOutcome : Shown → AllSettings → ℕ → Start → Life → Seen → FilesState → KeeperState → Outcome
    → Type 0
ProducesOutcome shown s most start planned seen held kept outcome =
    ProducesText shown s most start planned seen held kept outcome.text outcome.next

-- a text after a crash, if there was one
abbrev pub after_cut : Option Cut → List ℕ → List ℕ
after_cut None text = text
after_cut (Some cut) text = after_crash cut text

-- ---- between two runs

-- there was no run yet
pub record IsFirst (between : Between) : Type 0 where
  pub finds : DevicesAreReady first between.disk between.files between.keeper
  pub cut : between.cut ≡ None

-- what a run leaves was handed to what follows
abbrev pub PassesOn : Next → Between → Between → After → Type 0
PassesOn (follow.Ends ending) old new after = after ≡ afterwards.Ends ending
PassesOn (follow.Life left) old new after =
    (after ≡ afterwards.Life left.settings)
    × (new ≡ record old { cut = Some left.cut; left = old.left - left.taken })

-- The outcome of a run after others, by the texts before it and with it: its own text follows those
-- before, and the replay ends with it, or another run follows.
abbrev pub AppendsRun : Shown → AllSettings → Start → Life → Between → Between → List ℕ → List ℕ → After
    → Type 0
AppendsRun shown s start planned old new text all (afterwards.Ends ending) =
    (own : List ℕ) × EndsIn shown s old.left start planned (record { text = own; ending = ending })
    × (all ≡ text ++ after_cut old.cut own)
AppendsRun shown s start planned old new text all (afterwards.Life settings) =
    (c : CutRun) × IsCut s old.left start planned c
    × (all ≡ text ++ after_cut old.cut (life_text shown s c.below c.history)) × (settings ≡ s)
    × DevicesAreReady c.next new.disk new.files new.keeper × (new.cut ≡ Some c.cut)
    × (new.left ≡ old.left - waits_in (c.before ++ c.turn))
