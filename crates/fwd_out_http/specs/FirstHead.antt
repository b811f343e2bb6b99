-- The head that bytes start with.
use Rattle.std.specs.Prelude.{◌≡◌, ℕ, ◌<◌, ◌≤◌, List, length, drop}
use Rattle.httparse.specs.Grammar.{ResponseHead, status_code}
use Rattle.fwd_out_http.specs.Head.{BeginsWith}

-- the bytes start with a head with this status and of this length
pub record StartsWithHead (bytes : List ℕ) (status len : ℕ) : Type 0 where
  pub head : ResponseHead
  pub begins : BeginsWith bytes head (drop len bytes)
  pub code : status_code head ≡ status
  pub some : 0 < len
  pub within : len ≤ length bytes

-- they start with none
abbrev pub StartsWithNoHead : List ℕ → Type 0
StartsWithNoHead bytes = (head : ResponseHead) (rest : List ℕ) → BeginsWith bytes head rest → ⊥
