-- The `Stop` that a run makes after its last tick.
use Rattle.std.specs.Prelude.{ℕ, ◌+◌, ◌==◌, ◌&&◌, not, Bool, false, if◌then◌else◌, List, [], ◌∷◌}
use Rattle.std.specs.List.{list_any}
use Rattle.fwd_outside.specs.declared.happening.Happening.{Happening}
use Rattle.fwd_outside.specs.declared.happening.Happening.TheVariants as happening
use Rattle.fwd_settings.specs.declared.settings_types.AllSettings.{AllSettings}
use Rattle.fwd_theorem_limits.specs.RunEnd.{is_stop}

-- how many of these events are ticks
abbrev pub ticks_in : List Happening → ℕ
ticks_in [] = 0
ticks_in (happening.Tick now ∷ before) = ticks_in before + 1
ticks_in (brought ∷ before) = ticks_in before

-- whether an event is tick number `ticks`, and none before it stopped the run
abbrev pub is_last : AllSettings → ℕ → Happening → List Happening → Bool
is_last s ticks (happening.Tick now) before = ticks_in before + 1 == ticks && not (list_any (is_stop s) before)
is_last s ticks brought before = false

-- Events, the newest first, with the `Stop` that a run of so many ticks makes directly after the last tick.
abbrev pub with_last_stop : AllSettings → ℕ → List Happening → List Happening
with_last_stop s ticks [] = []
with_last_stop s ticks (brought ∷ before) =
    if is_last s ticks brought before then happening.Stop ∷ brought ∷ with_last_stop s ticks before
    else brought ∷ with_last_stop s ticks before
