-- Rows whose chunk numbers are at most a number.
use Rattle.std.proofs.Common.{◌≡◌, ℕ, ◌≤◌, ◌<◌, Bool, true, false, List, length, get_or, map, refl, arith}
use Rattle.std.specs.Prelude.{All, if◌then◌else◌}
use Rattle.std.proofs.lemmas.List.{length-map, get_or-map}
use Rattle.std.proofs.lemmas.List.Elements.{All-filter}
use Rattle.fwd_base.specs.declared.ids.ChunkId.{ChunkId}
use Rattle.fwd_table.specs.Row.{Row}
use Rattle.fwd_table.specs.Rows.{is_row_of, on_chunk, owed_rows, is_owed_row}

abbrev pub AtMost : ℕ → List Row → Type 0
AtMost n rows = All (λ (row : Row). row.chunk.0 ≤ n) rows

at_most_map : (n : ℕ) (f : Row → Row) → ((row : Row) → (f row).chunk.0 ≡ row.chunk.0) → (rows : List Row) → AtMost n rows → AtMost n (map f rows)
at_most_map n f same rows most k d within =
    let long = length-map rows f in
    let below : k < length rows = omega (arith, within, long) in
    let first : get_or (map f rows) k d ≡ f (get_or rows k d) = get_or-map f rows k d d below in
    let old = most k d below in
    rw (first, same (get_or rows k d)) old

one_of : (f : Row → Row) → ((row : Row) → (f row).chunk.0 ≡ row.chunk.0) → (test : Bool) (row : Row) → (if test then f row else row).chunk.0 ≡ row.chunk.0
one_of f same true row = same row
one_of f same false row = refl

pub at_most_on_chunk : (n : ℕ) (chunk : ChunkId) (f : Row → Row) → ((row : Row) → (f row).chunk.0 ≡ row.chunk.0) → (rows : List Row) → AtMost n rows → AtMost n (on_chunk chunk f rows)
at_most_on_chunk n chunk f same rows most = at_most_map n _ (λ row. one_of f same (is_row_of chunk row) row) rows most

pub at_most_owed : (n : ℕ) (rows : List Row) → AtMost n rows → AtMost n (owed_rows rows)
at_most_owed n rows most = All-filter is_owed_row (λ (row : Row). row.chunk.0 ≤ n) rows most
