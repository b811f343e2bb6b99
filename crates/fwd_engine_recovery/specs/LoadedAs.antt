-- The result of loading: the calls, and the parts of an engine after it.
use Rattle.std.specs.Prelude.{◌≢◌, Option, Some, None, Result, Ok, Err}
use Rattle.fwd_outside.specs.Program.{Return}
use Rattle.fwd_backlog.specs.declared.error.LoadErr.{LoadErr}
use Rattle.fwd_backlog.specs.declared.error.LoadErr.TheVariants.{DiskFailed, Memory}
use Rattle.fwd_settings.specs.declared.settings_types.AllSettings.{AllSettings}
use Rattle.fwd_model.specs.Fact.{History}
use Rattle.fwd_model.specs.Trace.{Action}
use Rattle.fwd_model.specs.CallLogs.{CallLogs, Leads, Completes}
use Rattle.fwd_model.specs.RecoveryActions.{recovers}
use Rattle.fwd_engine_state.specs.PartsRepresent.{PartsRepresentIdle}
use Rattle.fwd_engine_state.specs.declared.parts.Parts.{Parts}

-- the loading was completed, and the parts represent what was recovered
pub record LoadedAs (s : AllSettings) (a b : CallLogs) (parts : Parts) : Type 0 where
  pub history : History
  pub did : Completes a b (recovers s) (Some history)
  pub shows : PartsRepresentIdle s parts history

-- the calls are the first ones of the action, and it hasn't failed
abbrev pub Unfailed : {R : Type 0} → CallLogs → CallLogs → Action (Option R) → Type 0
Unfailed {R = R} old new act = (left : Action (Option R)) × Leads old new act left × (left ≢ Return None)

-- By the result: all was loaded; a disk call failed; or memory ran out before the loading failed.
abbrev pub LoadOutcome : AllSettings → CallLogs → CallLogs → Result Parts LoadErr → Type 0
LoadOutcome s a b (Ok parts) = LoadedAs s a b parts
LoadOutcome s a b (Err DiskFailed) = Completes a b (recovers s) None
LoadOutcome s a b (Err Memory) = Unfailed a b (recovers s)
