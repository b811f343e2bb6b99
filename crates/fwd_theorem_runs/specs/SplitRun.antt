-- A run, split after recovery.
use Rattle.std.specs.Prelude.{◌≡◌, ℕ, List, [], ◌∷◌, ◌++◌, Option, Some, None}
use Rattle.fwd_outside.specs.Program.{entry, Return, Execution}
use Rattle.fwd_outside.specs.Disk.{ListNames}
use Rattle.fwd_outside.specs.declared.ends.Ends.{Ends}
use Rattle.fwd_settings.specs.declared.settings_types.AllSettings.{AllSettings}
use Rattle.fwd_model.specs.Fact.{History}
use Rattle.fwd_model.specs.Trace.{TraceEntry, OnDisk}
use Rattle.fwd_model.specs.RecoveryActions.{recovers}
use Rattle.fwd_model.specs.Run.{RunResult, after_recovery}

-- what was recovered, the calls of recovery, and those that follow
pub record SplitRun (s : AllSettings) (ends : Ends) (ticks : Option ℕ) (turns : ℕ)
    (trace : List TraceEntry) (result : RunResult) : Type 0 where
  pub found : Option History
  pub recovery : List TraceEntry
  pub rest : List TraceEntry
  pub is : trace ≡ recovery ++ rest
  pub recovered : Execution (recovers s) recovery (Return found)
  pub followed : Execution (after_recovery s ends ticks turns found) rest (Return result)

-- recovery from a storage folder that lists nothing; without a storage folder there is no call
abbrev pub empty_recovery : Option (List ℕ) → List TraceEntry
empty_recovery None = []
empty_recovery (Some root) = entry (OnDisk (ListNames root)) (Some []) ∷ []
