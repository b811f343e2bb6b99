-- How often the lines of a series are written.
use Rattle.std.specs.Prelude.{ℕ, ◌+◌, ◌-◌, ◌*◌, ◌^◌, min, nat_lt, Bool, true, false, List, [], ◌∷◌, ◌++◌, Option, None, Some, if◌then◌else◌, option_to_list}
use Rattle.fwd_log.specs.declared.limiter.Limiter.{Limiter}

-- the limiter of a series with no lines
abbrev pub fresh : Limiter
fresh = record { next = 0; wait = 500; passed_over = 0 }

-- how long no line is written after one that is written now: twice as long as the last time, up to a minute; a
-- second after a quiet minute
abbrev pub next_wait : Limiter → ℕ → ℕ
next_wait state now = if nat_lt (now - state.next) 60000 then min (2 * state.wait) 60000 else 1000

-- how many lines were passed over, if this one is written, and the limiter after it; whether it comes too early
-- is given
abbrev pub limit_by : Bool → Limiter → ℕ → Option ℕ × Limiter
limit_by true state now = (None, record state { passed_over = min (state.passed_over + 1) (2 ^ 64 - 1) })
limit_by false state now = (
  Some state.passed_over,
  record
      { next = min (now + next_wait state now) (2 ^ 64 - 1); wait = next_wait state now; passed_over = 0 },
)

abbrev pub limit_of : Limiter → ℕ → Option ℕ × Limiter
limit_of state now = limit_by (nat_lt now state.next) state now

-- of lines at these times: for each that is written, how many it counts as passed over
abbrev pub written_of : Limiter → List ℕ → List ℕ
written_of state [] = []
written_of state (now ∷ times) = option_to_list (limit_of state now).0 ++ written_of (limit_of state now).1 times

-- the limiter after lines at these times
abbrev pub after : Limiter → List ℕ → Limiter
after state [] = state
after state (now ∷ times) = after (limit_of state now).1 times
