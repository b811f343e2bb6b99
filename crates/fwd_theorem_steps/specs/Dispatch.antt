-- The events that end with a dispatch.
use Rattle.std.specs.Prelude.{◌≡◌, ◌&&◌, Bool, true, false, List, ◌++◌, is_none}
use Rattle.fwd_outside.specs.declared.happening.Happening.{Happening}
use Rattle.fwd_outside.specs.declared.happening.Happening.TheVariants as happening
use Rattle.fwd_settings.specs.declared.settings_types.AllSettings.{AllSettings}
use Rattle.fwd_model.specs.Fact.{History}
use Rattle.fwd_model.specs.Trace.{TraceEntry, history_after}
use Rattle.fwd_model.specs.Settings.{reads_stdin_at}
use Rattle.fwd_model.specs.Clock.{stopped}
use Rattle.fwd_model.specs.Dispatch.{due_routes}
use Rattle.fwd_theorem_trace.specs.Dispatch.{IsDispatched}

-- whether an event ends with a dispatch: a tick, and the first of `Stop` and the end of a standard input
abbrev pub dispatches_at : AllSettings → History → Happening → Bool
dispatches_at s h (happening.Tick now) = true
dispatches_at s h (happening.InputEnd input) = reads_stdin_at s input.0 && is_none (stopped s h)
dispatches_at s h happening.Stop = is_none (stopped s h)
dispatches_at s h brought = false

-- the calls of a step after this history: the first ones, and then one turn for each route that is due by then
pub record EndsWithDispatch (s : AllSettings) (h : History) (entries : List TraceEntry)
    (new : History) : Type 0 where
  pub first : List TraceEntry
  pub rest : List TraceEntry
  pub is : entries ≡ first ++ rest
  pub turns : IsDispatched s (due_routes s (history_after first h)) (history_after first h) rest new
