-- Statuses that are retried besides those that always are.
use Rattle.std.specs.Prelude.{ℕ, Bool, ◌&&◌, nat_le, List}
use Rattle.std.specs.List.{list_any}
use Rattle.fwd_http.specs.declared.statuses.StatusRange.{StatusRange}

-- a status is in a range
abbrev pub has_status : ℕ → StatusRange → Bool
has_status status range = nat_le range.first status && nat_le status range.last

-- a status is in one of the ranges
abbrev pub is_retried : List StatusRange → ℕ → Bool
is_retried ranges status = list_any (has_status status) ranges
