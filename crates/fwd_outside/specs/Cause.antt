-- The count of failures of a device.
use Rattle.std.specs.Prelude.{ℕ, ◌+◌, ◌-◌, ◌^◌, ◌≤◌, min}

-- the count rose, or is at its maximum
abbrev pub HasIncreased : ℕ → ℕ → Type 0
HasIncreased before now = min (before + 1) (2 ^ 64 - 1) ≤ now

-- The count didn't decrease, and it rose if the answer is a failure.
pub record HasCause (before now : ℕ) (failed : Type 0) : Type 0 where
  pub later : before ≤ now
  pub cause : failed → HasIncreased before now
