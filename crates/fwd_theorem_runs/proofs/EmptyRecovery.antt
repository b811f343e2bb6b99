-- Recovery, and what follows it.
use Rattle.std.proofs.Common.{◌≡◌, ℕ, List, [], ◌++◌, Option, Some, None, refl, subst}
use Rattle.fwd_outside.specs.Program.{Return, bind, Execution}
use Rattle.fwd_outside.specs.declared.ends.Ends.{Ends}
use Rattle.fwd_outside.proofs.Executions.{way_trans, way_bind}
use Rattle.fwd_settings.specs.declared.settings_types.AllSettings.{AllSettings}
use Rattle.fwd_model.specs.Fact.{History}
use Rattle.fwd_model.specs.Trace.{TraceEntry}
use Rattle.fwd_model.specs.RecoveryActions.{loads_from, recovers}
use Rattle.fwd_model.specs.Run.{RunResult, after_recovery, life}
use Rattle.fwd_theorem_trace.proofs.Turns.{way_parts}
use Rattle.fwd_theorem_runs.specs.SplitRun.{SplitRun, empty_recovery}

module _ (s : AllSettings) (ends : Ends) (ticks : Option ℕ) (turns : ℕ) where
  pub split : (trace : List TraceEntry) (result : RunResult) → Execution (life s ends ticks turns) trace (Return result) → SplitRun s ends ticks turns trace result
  unfolding life
  split trace result way =
      let parts = way_parts (recovers s) (after_recovery s ends ticks turns) trace result way in
      record { found = parts.0; recovery = parts.1; rest = parts.2; is = parts.3; recovered = parts.4; followed = parts.5 }

  empty : (path : Option (List ℕ)) → Execution (loads_from path) (empty_recovery path) (Return (Some []))
  empty None = refl
  empty (Some root) = (Some [], refl, refl)

  from_empty : Execution (recovers s) (empty_recovery s.service.path) (Return (Some []))
  unfolding recovers
  from_empty = empty s.service.path

  pub on_empty : (rest : List TraceEntry) (found : Option History) (result : RunResult) → found ≡ Some [] → Execution (after_recovery s ends ticks turns found) rest (Return result)
      → Execution (life s ends ticks turns) (empty_recovery s.service.path ++ rest) (Return result)
  unfolding life
  on_empty rest found result is followed =
      way_trans (bind (recovers s) (after_recovery s ends ticks turns)) (after_recovery s ends ticks turns (Some [])) (Return result) (empty_recovery s.service.path) rest
      (way_bind (recovers s) (Return (Some [])) (empty_recovery s.service.path) (after_recovery s ends ticks turns) from_empty)
      (subst (λ (x : Option History). Execution (after_recovery s ends ticks turns x) rest (Return result)) is followed)
