-- Which of two routes comes first.
use Rattle.std.specs.Prelude.{◌≡◌, ◌⊎◌, ◌<◌}
use Rattle.fwd_settings.specs.declared.settings_types.AllSettings.{AllSettings}
use Rattle.fwd_model.specs.Fact.{History, Route}
use Rattle.fwd_model.specs.Routes.{due}

-- its chunk has the lower number, or the chunks are the same and its output has the lower number
abbrev pub IsLower : Route → Route → Type 0
IsLower q r = (q.chunk < r.chunk) ⊎ ((q.chunk ≡ r.chunk) × (q.output < r.output))

-- it is due earlier, or they are due at the same time and it is the lower one
abbrev pub IsDueBefore : AllSettings → History → Route → Route → Type 0
IsDueBefore s h q r = (due s h q < due s h r) ⊎ ((due s h q ≡ due s h r) × IsLower q r)
