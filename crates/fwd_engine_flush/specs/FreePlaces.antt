-- Outputs with a free place.
use Rattle.std.specs.Prelude.{◌≡◌, ℕ, ◌==◌, Bool, nat_lt}
use Rattle.std.specs.Int.{bit_at}
use Rattle.fwd_settings.specs.declared.settings_types.AllSettings.{AllSettings}
use Rattle.fwd_model.specs.Fact.{History}
use Rattle.fwd_model.specs.Settings.{output_at, slots_at}
use Rattle.fwd_model.specs.Routes.{flights_to}

-- whether fewer flushes to an output are in flight than may be
abbrev pub is_free : AllSettings → History → ℕ → Bool
is_free s h output = nat_lt (flights_to s h output) (slots_at (output_at s output))

-- a mask has exactly the outputs with a free place
abbrev pub IsMaskOfFree : AllSettings → History → ℕ → Type 0
IsMaskOfFree s h mask = (output : ℕ) → (bit_at mask output == 1) ≡ is_free s h output
