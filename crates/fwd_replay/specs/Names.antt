-- The parts of settings that the text uses.
use Rattle.std.specs.Prelude.{◌≡◌, ℕ, List}
use Rattle.fwd_settings.specs.declared.settings_types.AllSettings.{AllSettings}
use Rattle.fwd_settings.specs.declared.settings_types.OutputSet.{OutputSet}
use Rattle.fwd_model.specs.Fact.{History}
use Rattle.fwd_engine_run.specs.EngineSteps.{IsAt}
use Rattle.fwd_engine_run.specs.Engine.{Engine}
use Rattle.fwd_engine_run.specs.declared.run_loop.RunEnd.{RunEnd}
use Rattle.fwd_engine_run.specs.declared.run_loop.RunEnd.TheVariants as run_end
use Rattle.fwd_replay.specs.Text.{input_names, output_names, stdout_mask}
use Rattle.fwd_replay.specs.declared.names.Named.{Named}
use Rattle.fwd_replay.specs.declared.report.Shown.{Shown}
use Rattle.fwd_replay.specs.declared.report.Shown.TheVariants.{All, Report}

-- bit i is set if the text shows what output i took
abbrev pub printed_mask : Shown → List OutputSet → ℕ
printed_mask All outputs = stdout_mask outputs
printed_mask Report outputs = 0

pub record IsNamed (named : Named) (s : AllSettings) : Type 0 where
  pub inputs : named.inputs ≡ input_names s.inputs
  pub outputs : named.outputs ≡ output_names s.outputs
  pub printed : named.printed ≡ printed_mask named.shown s.outputs

-- an engine in some state, with the settings of these names
pub record IsNamedOf (named : Named) (engine : Engine) : Type 0 where
  pub settings : AllSettings
  pub history : History
  pub at : IsAt engine settings history
  pub is : IsNamed named settings

abbrev pub IsNamedUnlessFailed : Named → Engine → RunEnd → Type 0
IsNamedUnlessFailed named engine run_end.KeeperFailed = Unit {0}
IsNamedUnlessFailed named engine run_end.LoopFailed = Unit {0}
IsNamedUnlessFailed named engine run_end.Over = IsNamedOf named engine
IsNamedUnlessFailed named engine run_end.TurnsSpent = IsNamedOf named engine
