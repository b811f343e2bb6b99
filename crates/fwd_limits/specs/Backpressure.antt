-- Backpressure: which inputs are paused.
use Rattle.std.specs.Prelude.{◌≡◌, ℕ, Bool, true, false, nat_le, List, Option, Some, None, slice_get, IsSomeAnd}
use Rattle.fwd_table.specs.Row.{Row}
use Rattle.fwd_table.specs.Usage.{memory_of}

-- whether the used memory reaches a limit, if there is one
abbrev pub reaches : Option ℕ → ℕ → Bool
reaches None held = false
reaches (Some limit) held = nat_le limit held

-- an input has a limit, and has reached it
abbrev pub IsPaused : List (Option ℕ) → List Row → ℕ → Type 0
IsPaused limits rows input =
    IsSomeAnd (slice_get limits input) (λ limit. reaches limit (memory_of input rows) ≡ true)
