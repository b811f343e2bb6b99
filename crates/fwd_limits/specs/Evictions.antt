-- What an output evicts of the chunks in files that are pending for it, so that a closed chunk fits.
use Rattle.std.specs.Prelude.{◌≡◌, ℕ, zero, suc, ◌+◌, ◌-◌, ◌<◌, ◌≤◌, ◌&&◌, not, nat_lt, nat_le, if◌then◌else◌, List, [], ◌∷◌, ◌++◌, length, drop, map, filter, Option, Some, None}
use Rattle.fwd_base.specs.declared.ids.ChunkId.{ChunkId}
use Rattle.fwd_base.specs.declared.ids.OutputId.{OutputId}
use Rattle.fwd_table.specs.Row.{Row}
use Rattle.fwd_table.specs.Rows.{is_row_of, on_chunk, resolved_to}
use Rattle.fwd_table.specs.Usage.{in_file, is_waiting, size_of, flying_to}
use Rattle.fwd_limits.specs.declared.eviction.Loss.{Loss}
use Rattle.fwd_limits.specs.declared.eviction.Loss.TheVariants.{Fits, Lose, NewLoses}

-- the closed chunks in files, without this one, that wait for an output, by rising number
abbrev pub other_waiting : OutputId → ChunkId → List Row → List Row
other_waiting output chunk rows =
    filter (λ row. in_file row && (is_waiting output row && not (is_row_of chunk row))) rows

-- the bytes of this chunk and of those in flight to the output
abbrev pub fixed : OutputId → ChunkId → List Row → ℕ
fixed output chunk rows = size_of (flying_to output rows) + size_of (filter (is_row_of chunk) rows)

-- the first of some chunks, as few as leave at most this many bytes
abbrev pub evicted_among : ℕ → List Row → List Row
evicted_among room [] = []
evicted_among room (row ∷ rows) =
    if nat_le (size_of (row ∷ rows)) room then [] else row ∷ evicted_among room rows

-- The chunks that an output evicts when this one has closed. It is this one alone if it doesn't fit beside
-- what is in flight. Else it is the lowest of the others, as few as make the rest fit. This is defined for
-- any chunk, not only for one whose route is idle.
abbrev pub evicted_for : OutputId → ℕ → ChunkId → List Row → List ChunkId
evicted_for output limit chunk rows =
    if nat_lt limit (fixed output chunk rows) then chunk ∷ []
    else map (λ row. row.chunk)
    (evicted_among (limit - fixed output chunk rows) (other_waiting output chunk rows))

abbrev pub first_chunk : List Row → Option ChunkId
first_chunk [] = None
first_chunk (row ∷ rows) = Some row.chunk

abbrev pub loss_of : Option ChunkId → Loss
loss_of None = Fits
loss_of (Some chunk) = Lose chunk

-- the first of them, one at a time
abbrev pub next_eviction : OutputId → ℕ → ChunkId → List Row → Loss
next_eviction output limit chunk rows =
    if nat_lt limit (fixed output chunk rows) then NewLoses
    else loss_of
    (first_chunk (evicted_among (limit - fixed output chunk rows) (other_waiting output chunk rows)))

-- what is evicted after an answer: nothing, the closed chunk, or another one and what follows it
abbrev pub evicted_after : (List Row → List ChunkId) → OutputId → ChunkId → List Row → Loss → List ChunkId
evicted_after again output chunk rows Fits = []
evicted_after again output chunk rows (Lose first) = first ∷ again (on_chunk first (resolved_to output) rows)
evicted_after again output chunk rows NewLoses = chunk ∷ []

-- what repeated calls evict, at most so many, if each evicted chunk leaves the table
abbrev pub evicted_by_calls : ℕ → OutputId → ℕ → ChunkId → List Row → List ChunkId
evicted_by_calls zero output limit chunk rows = []
evicted_by_calls (suc turns) output limit chunk rows =
    evicted_after (evicted_by_calls turns output limit chunk) output chunk rows
    (next_eviction output limit chunk rows)

-- these are the first of some chunks, the rest fits, and no shorter list would do
pub record IsShortest (room : ℕ) (rows lost : List Row) : Type 0 where
  pub left : List Row
  pub first : lost ++ left ≡ rows
  pub fits : size_of left ≤ room
  pub shortest : (n : ℕ) → n < length lost → room < size_of (drop n rows)
