-- Waits before a retry, as in the manual's page on scheduling and retries: the wait is drawn from a range
-- whose upper end doubles at each try.
use Rattle.std.specs.Prelude.{ℕ, ◌+◌, ◌-◌, ◌*◌, ◌%◌, ◌^◌, min, max}

-- the longest wait before the n-th retry: the base doubled n times, at most the cap, but never less than
-- the base
abbrev pub longest : ℕ → ℕ → ℕ → ℕ
longest n base cap = max base (min cap (base * 2 ^ n))

-- the wait that a random word picks from the base to the longest one
unfoldable pub wait : ℕ → ℕ → ℕ → ℕ → ℕ
wait n base cap word = base + word % (longest n base cap - base + 1)
