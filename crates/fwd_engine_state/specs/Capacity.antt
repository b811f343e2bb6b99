-- Whether a chunk fits within the limits on what is in flight, by the contract view of its row.
use Rattle.std.specs.Prelude.{ℕ, ◌+◌, ◌==◌, ◌&&◌, ◌||◌, nat_lt, nat_le, not, Bool, List}
use Rattle.fwd_table.specs.Row.{Row}
use Rattle.fwd_table.specs.RowSeen.{RowSeen}
use Rattle.fwd_table.specs.Usage.{is_file, is_recovered, files_up, found_up}

abbrev pub fits_seen : ℕ → ℕ → List Row → RowSeen → Bool
fits_seen max_up limit rows seen =
    not (is_file seen.home)
    || (not (seen.flying == 0)
    || (nat_lt (files_up rows) max_up
    && (not (is_recovered seen.input)
    || (nat_le (found_up rows + seen.size) limit || found_up rows == 0))))
