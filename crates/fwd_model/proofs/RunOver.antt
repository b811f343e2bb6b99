-- The run is over at the event End.
use Rattle.std.proofs.Common.{◌≡◌, ℕ, true, Option, Some, None, refl}
use Rattle.fwd_outside.specs.declared.happening.Happening.TheVariants as happening
use Rattle.fwd_settings.specs.declared.settings_types.AllSettings.{AllSettings}
use Rattle.fwd_model.specs.Fact.{History}
use Rattle.fwd_model.specs.Clock.{stopped}
use Rattle.fwd_model.specs.Run.{is_over, is_over_after}

over_behind : (s : AllSettings) (at : Option ℕ) (h : History) → is_over_after s happening.End at h ≡ true
over_behind s None h = refl
over_behind s (Some at) h = refl

pub over_at_end : (s : AllSettings) (h : History) → is_over s happening.End h ≡ true
unfolding is_over
over_at_end s h = over_behind s (stopped s h) h
