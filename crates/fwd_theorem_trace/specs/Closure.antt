-- When all open chunks close.
use Rattle.std.specs.Prelude.{◌&&◌, Bool, false, [], ◌∷◌, is_none}
use Rattle.fwd_outside.specs.declared.happening.Happening.{Happening}
use Rattle.fwd_outside.specs.declared.happening.Happening.TheVariants as happening
use Rattle.fwd_settings.specs.declared.settings_types.AllSettings.{AllSettings}
use Rattle.fwd_model.specs.Fact.{History, Happened}
use Rattle.fwd_model.specs.Settings.{reads_stdin_at}
use Rattle.fwd_model.specs.Clock.{stopped, is_close_due}

-- whether this event closes open chunks: at a closing tick, and at the first of `Stop` and the end of a
-- standard input
abbrev pub closes_at : AllSettings → History → Happening → Bool
closes_at s h (happening.Tick now) = is_close_due s h now
closes_at s h (happening.InputEnd input) = reads_stdin_at s input.0 && is_none (stopped s h)
closes_at s h happening.Stop = is_none (stopped s h)
closes_at s h brought = false

-- whether the last event closed them
abbrev pub has_closed : AllSettings → History → Bool
has_closed s [] = false
has_closed s (Happened brought ∷ h) = closes_at s h brought
has_closed s (fact ∷ h) = has_closed s h
