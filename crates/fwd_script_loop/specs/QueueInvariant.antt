-- The fields of a queue of events.
use Rattle.std.specs.Prelude.{◌≡◌, ℕ, ◌<◌, ◌≤◌, true, false, List, length, slice_index_or}
use Rattle.fwd_script_loop.specs.declared.queue.Coming.{Coming}
use Rattle.fwd_script_loop.specs.PauseMask.{comes, hears}

-- each event is valid, and the first `known` ones don't pass this mask
pub record IsQueued (items : List Coming) (quiet known : ℕ) : Type 0 where
  pub within : known ≤ length items
  pub unheard : (k : ℕ) (d : Coming) → k < known → hears quiet (slice_index_or items k d) ≡ false
  pub come : (k : ℕ) (d : Coming) → k < length items → comes (slice_index_or items k d).happening ≡ true
