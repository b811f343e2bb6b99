-- The replay of a recorded run.
use Rattle.std.specs.Prelude.{◌≡◌, ◌≢◌, ◌⊎◌, ℕ, ◌-◌, ◌^◌, ◌≤◌, Bool, false, List, [], ◌∷◌, ◌++◌, length, Option, Result}
use Rattle.fwd_base.specs.declared.memory.Memory.{Memory}
use Rattle.fwd_outside.specs.Program.{entry}
use Rattle.fwd_outside.specs.AtCrashPoints.{Ends}
use Rattle.fwd_outside.specs.DiskStates.{Files}
use Rattle.fwd_outside.specs.Loop.{LoopEntry, Wait}
use Rattle.fwd_outside.specs.declared.happening.Happening.TheVariants as happening
use Rattle.fwd_settings.specs.declared.settings_types.AllSettings.{AllSettings}
use Rattle.fwd_script.specs.declared.schedule.Life.{Life}
use Rattle.fwd_script.specs.declared.schedule.Schedule.{Schedule}
use Rattle.fwd_model.specs.Fact.{History, Route}
use Rattle.fwd_model.specs.Trace.{TraceEntry, loop_part, disk_part, history_after}
use Rattle.fwd_model.specs.CallLogs.{CallLogs}
use Rattle.fwd_model.specs.Limits.{paused}
use Rattle.fwd_model.specs.Routes.{due, rows_of, tries}
use Rattle.fwd_model.specs.Counters.{tally_of}
use Rattle.fwd_model.specs.Run.{RunResult, Over, TurnsSpent}
use Rattle.fwd_secure.specs.Handshakes.{Handshakes}
use Rattle.fwd_secure.specs.Kept.{holds}
use Rattle.fwd_record.specs.Seen.{Seen, calls_of}
use Rattle.fwd_record.specs.Links.{links_in, number_of}
use Rattle.fwd_record.specs.Failures.{failed_from}
use Rattle.fwd_record.specs.Recorded.{recorded}
use Rattle.fwd_record.specs.Played.{replayed}
use Rattle.fwd_script_loop.specs.LinkBytes.{handed}
use Rattle.fwd_replay.specs.RecordedRun.{IsSeen, Unstopped, StoppedAfter, IsRecorded, first_number}
use Rattle.fwd_replay.specs.Runs.{EndsIn, IsReplayed, first}
use Rattle.fwd_replay.specs.Text.{report, stdout_mask, with_line_end}
use Rattle.fwd_replay.specs.declared.report.Ending.TheVariants as ending
use Rattle.fwd_replay.specs.declared.report.Reported.{Reported}
use Rattle.fwd_replay.specs.declared.report.Shown.TheVariants.{All}
use Rattle.fwd_theorem_crash.specs.CrashPoint.{CrashPoint, crash_point, LeadsTo}
use Rattle.fwd_theorem_content.specs.KnownNames.{NamesAreKnown}
use Rattle.fwd_theorem_runs.specs.SplitRun.{empty_recovery}
use Rattle.fwd_theorem_recorded.specs.HandedBytes.{handed_from}

-- the one life of the recorded schedule, by what the recorder saw and the calls on the devices
abbrev pub life_of : AllSettings → List Seen → List TraceEntry → Life
life_of s seen below = recorded seen (failed_from (first_number s.service.path) (disk_part below))

-- The disk kept its model: one could have answered these calls so on which, when the run began, each name
-- had a file, or had none that a crash could bring back.
pub record DiskKeptModel (calls : List TraceEntry) : Type 0 where
  pub start : Files
  pub last : CrashPoint
  pub known : NamesAreKnown start
  pub way : Ends LeadsTo (crash_point [] start) calls last

-- What a replay of a recorded run needs. The disk kept its model. Each call on the disk and each link has a
-- number of 64 bits. If the turns were used up, the keyed loop held no bytes that the next wait would have
-- given.
pub record IsReplayable (s : AllSettings) (recovery trace : List TraceEntry) (handshakes : Handshakes)
    (result : RunResult) (seen : List Seen) : Type 0 where
  pub disk : DiskKeptModel (recovery ++ trace)
  pub calls : length (disk_part trace) ≤ 2 ^ 64 - 2
  pub few : length (links_in (calls_of seen)) ≤ 2 ^ 64 - 1
  pub unheld : result.end ≡ TurnsSpent → holds (paused s result.history) handshakes.kept ≡ false

-- The keyed loop held no bytes that the next wait would have given, where the last tick stopped the run.
abbrev pub IsUnheldAtStop : (s : AllSettings) (ticks : Option ℕ) (turns : ℕ) (trace below : List TraceEntry)
    (handshakes : Handshakes) (seen : List Seen) → IsSeen s ticks turns trace below handshakes seen → Type 0
IsUnheldAtStop s ticks turns trace below handshakes seen (Unstopped _ _ _ result way so) = Unit {0}
IsUnheldAtStop s ticks turns trace below handshakes seen
    (StoppedAfter before after before_below after_below stopped _ stops so more) =
    holds (paused s stops.now) stopped.kept ≡ false

-- the same rows, tries, due times and counts
pub record AreSameCounts (s : AllSettings) (one other : History) : Type 0 where
  pub rows : rows_of s other ≡ rows_of s one
  pub tries : (r : Route) → tries other r ≡ tries one r
  pub due : (r : Route) → due s other r ≡ due s one r
  pub tally : tally_of s other ≡ tally_of s one

-- the first calls and facts of the replay, which lead to the same rows, tries, due times and counts
pub record ReachesSameCounts (s : AllSettings) (history : History) (replay : List TraceEntry) : Type 0 where
  pub front : List TraceEntry
  pub rest : List TraceEntry
  pub is : replay ≡ front ++ rest
  pub same : AreSameCounts s history (history_after front [])

-- a last wait, for the end, if the live run had used up its turns
abbrev pub IsLastWait : RunResult → List LoopEntry → Type 0
IsLastWait result last =
    ((result.end ≡ Over) × (last ≡ []))
    ⊎ ((result.end ≡ TurnsSpent) × (until : ℕ) × (paused : ℕ)
    × (last ≡ entry (Wait until paused) happening.End ∷ []))

-- A replay of a recorded run: `trace` and `below` are those of the live run after its recovery of nothing,
-- and `replay` and `replay_below` those of its replay.
pub record IsReplayOf (s : AllSettings) (trace below : List TraceEntry) (result : RunResult)
    (seen : List Seen) (replay replay_below : List TraceEntry) (replay_result : RunResult) : Type 0 where
  -- the same calls on the loop, with the same answers, and links numbered as in the schedule
  pub until : ℕ
  pub paused : ℕ
  pub last : List LoopEntry
  pub last_is : IsLastWait result last
  pub calls :
      loop_part replay_below ≡ replayed (number_of (links_in (calls_of seen))) until paused seen ++ last
  -- the same bytes for each output
  pub handed : (outputs : ℕ)
      → handed outputs [] (loop_part replay_below) ≡ handed_from outputs [] [] (calls_of seen)
  -- the same calls on the disk, after the recovery of an empty one
  pub disk : disk_part replay_below ≡ disk_part (empty_recovery s.service.path ++ below)
  -- at each step the same rows, tries, due times and counts
  pub steps : (front rest : List TraceEntry) → trace ≡ front ++ rest
      → ReachesSameCounts s (history_after front []) replay
  -- it is over, with the same report
  pub over : replay_result.end ≡ Over
  pub reports : report s replay_result.history ≡ report s result.history

-- The replay of a recorded run, with at most `turns` turns. `reported` is what the recorded run wrote.
pub record ReplaysTheRun (s : AllSettings) (trace below : List TraceEntry) (result : RunResult)
    (seen : List Seen) (reported : Reported) (turns : ℕ) (replayed : Reported) : Type 0 where
  -- the run of the recorded schedule that the replay shows
  pub replay : EndsIn All s turns first (life_of s seen below) replayed
  -- it is the recorded run again
  pub is : IsReplayOf s trace below result seen replay.trace replay.is.below replay.comes
  pub over : replayed.ending ≡ ending.Over
  -- it prints what the standard outputs took in the recorded run, and then the report of that run
  pub text : replayed.text
      ≡ with_line_end (handed_from (stdout_mask s.outputs) [] [] (calls_of seen)) ++ reported.text

-- What was recorded of this run replays: each replay of it whose turns and whose memory suffice is this run
-- again.
abbrev pub RunReplays : (s : AllSettings) (ticks : Option ℕ) (turns : ℕ) (old new : CallLogs) (endless : Bool)
    (reported : Reported) (made : Result Schedule Memory)
    → IsRecorded s ticks turns old new endless reported made → Type 0
RunReplays s ticks turns old new endless reported made run =
    IsReplayable s run.recovery run.trace run.handshakes run.result run.seen
    → IsUnheldAtStop s ticks turns run.trace run.below run.handshakes run.seen run.is_seen
    → (most : ℕ) (replayed : Reported)
    → IsReplayed All s most first (life_of s run.seen run.below ∷ []) replayed
    → replayed.ending ≢ ending.TurnsSpent → replayed.ending ≢ ending.Memory
    → ReplaysTheRun s run.trace run.below run.result run.seen reported most replayed
