-- Whether a run is well.
use Rattle.std.specs.Prelude.{ℕ, ◌-◌, Bool, true, nat_le, Option, Some, None}

-- whether no chunk was given up in the last minute
abbrev pub is_healthy : Option ℕ → ℕ → Bool
is_healthy None now = true
is_healthy (Some failure) now = nat_le 60000 (now - failure)
