-- The turns of a run that was broken off.
use Rattle.std.specs.Prelude.{◌≡◌, ℕ, ◌≤◌, Bool, true, false, List, [], ◌∷◌, ◌++◌, Option, None}
use Rattle.fwd_outside.specs.Program.{Return, Execution}
use Rattle.fwd_outside.specs.Loop.{Start, Wait}
use Rattle.fwd_outside.specs.declared.ends.Ends.{Ends}
use Rattle.fwd_outside.specs.declared.happening.Happening.TheVariants as happening
use Rattle.fwd_settings.specs.declared.settings_types.AllSettings.{AllSettings}
use Rattle.fwd_model.specs.Fact.{History}
use Rattle.fwd_model.specs.Trace.{Call, Answer, TraceEntry, OnLoop}
use Rattle.fwd_model.specs.RecoveryActions.{recovers}
use Rattle.fwd_model.specs.Run.{DiskFailed, LoopFailed, TurnsSpent, RunResult, lived, life}
use Rattle.fwd_theorem_trace.specs.Waits.{waits_in}

-- The calls of a run up to the end of its last whole turn, and those since, of which at most one is a wait.
pub record LastWholeTurn (s : AllSettings) (ends : Ends) (ticks : Option ℕ)
    (entries : List TraceEntry) : Type 0 where
  pub turns : ℕ
  pub whole : List TraceEntry
  pub since : List TraceEntry
  pub history : History
  pub is : entries ≡ whole ++ since
  pub way : Execution (life s ends ticks turns) whole (Return (lived history TurnsSpent))
  pub few : waits_in since ≤ 1

-- A run that hasn't waited yet, or its last whole turn. Before the first wait a run has made all of its start.
pub data HasTurns (s : AllSettings) (ends : Ends) (ticks : Option ℕ) (entries : List TraceEntry) : Type 0 where
  NoTurn : waits_in entries ≡ 0 → HasTurns s ends ticks entries
  WholeTurns : LastWholeTurn s ends ticks entries → HasTurns s ends ticks entries

-- whether a call says that the loop failed: its start did, or a wait
abbrev pub is_loop_failure : (call : Call) → Answer call → Bool
is_loop_failure (OnLoop (Start ends)) None = true
is_loop_failure (OnLoop (Wait until paused)) happening.Failed = true
is_loop_failure call answer = false

-- the last call said so
pub record LoopFailedLast (entries : List TraceEntry) : Type 0 where
  pub before : List TraceEntry
  pub last : TraceEntry
  pub is : entries ≡ before ++ last ∷ []
  pub failed : is_loop_failure last.call last.answer ≡ true

-- Why a run of so many turns ended: it made a wait for each turn, its last call said that the loop failed, or a call
-- on the disk failed as it loaded, and it made no call since.
pub record EndsForCause (s : AllSettings) (turns : ℕ) (entries : List TraceEntry) (comes : RunResult) : Type 0 where
  pub spent : comes.end ≡ TurnsSpent → waits_in entries ≡ turns
  pub loop : comes.end ≡ LoopFailed → LoopFailedLast entries
  pub disk : comes.end ≡ DiskFailed → Execution (recovers s) entries (Return None)
