-- Rows whose chunk ids rise.
use Rattle.std.proofs.Common.{◌≡◌, ℕ, zero, suc, ◌<◌, Bool, true, false, List, [], ◌∷◌, length, get_or, map, Some, refl, sym, ◌∙◌, subst, arith}
use Rattle.std.specs.Prelude.{find, slice_get, if◌then◌else◌}
use Rattle.std.proofs.lemmas.Bool.{eq-eqb, ne_eqb}
use Rattle.std.proofs.lemmas.List.{length-map, get_or-map}
use Rattle.std.proofs.lemmas.Option.{slice_get_within, get_or_from_slice_get}
use Rattle.fwd_base.specs.declared.ids.ChunkId.{ChunkId}
use Rattle.fwd_table_rows.specs.declared.row.Row.{Row}
use Rattle.fwd_table_rows.specs.declared.row.RowChange.{RowChange}
use Rattle.fwd_table_rows.specs.declared.row.RowChange.TheVariants.{Grows, Shuts, Changes, Resolves}
use Rattle.fwd_table_rows.specs.Rows.{ChunksRise, is_row_of, row_at, on_chunk}
use Rattle.fwd_table_rows.specs.Changes.{row_with_change}

rise-map : (f : Row → Row) → ((row : Row) → (f row).chunk.0 ≡ row.chunk.0) → (rows : List Row) → ChunksRise rows → ChunksRise (map f rows)
rise-map f same rows rise i j d less within =
    let long = length-map rows f in
    let below : j < length rows = omega (arith, within, long) in
    let first : get_or (map f rows) i d ≡ f (get_or rows i d) = get_or-map f rows i d d (omega (arith, less, below)) in
    let second : get_or (map f rows) j d ≡ f (get_or rows j d) = get_or-map f rows j d d below in
    let old = rise i j d less below in
    rw (first, second, same (get_or rows i d), same (get_or rows j d)) old

pub keeps_chunk : (change : RowChange) (row : Row) → (row_with_change change row).chunk.0 ≡ row.chunk.0
keeps_chunk (Grows size) row = refl
keeps_chunk (Shuts now) row = refl
keeps_chunk (Changes output change) row = refl
keeps_chunk (Resolves output) row = refl

kept_by : (test : Bool) (change : RowChange) (row : Row) → (if test then row_with_change change row else row).chunk.0 ≡ row.chunk.0
kept_by true change row = keeps_chunk change row
kept_by false change row = refl

pub rise-on_chunk : (chunk : ChunkId) (change : RowChange) (rows : List Row) → ChunksRise rows → ChunksRise (on_chunk chunk (row_with_change change) rows)
rise-on_chunk chunk change rows rise = rise-map _ (λ row. kept_by (is_row_of chunk row) change row) rows rise

found_at : (test : Row → Bool) (rows : List Row) (i : ℕ) (row d : Row) → slice_get rows i ≡ Some row → test row ≡ true → ((k : ℕ) → k < i → test (get_or rows k d) ≡ false) → find test rows ≡ Some row
found_at test [] i row d there here before = cc
found_at test (r ∷ rows) zero row d there here before = let same : r ≡ row = cc in rw (same, here) refl
found_at test (r ∷ rows) (suc i) row d there here before =
    let none : test r ≡ false = before 0 (omega arith) in
    rw none (found_at test rows i row d there here (λ k less. before (suc k) (omega (arith, less))))

-- a row is the only one of its chunk
pub row_found : (rows : List Row) (i : ℕ) (row : Row) → ChunksRise rows → slice_get rows i ≡ Some row → slice_get rows i ≡ row_at row.chunk rows
row_found rows i row rise there =
    there
    ∙ sym (found_at (is_row_of row.chunk) rows i row row there (eq-eqb row.chunk.0 row.chunk.0 refl) (λ k less. ne_eqb (get_or rows k row).chunk.0 row.chunk.0 (apart k less)))
  where
    within : i < length rows
    within = slice_get_within rows i row there

    here : get_or rows i row ≡ row
    here = get_or_from_slice_get rows i row row there

    apart : (k : ℕ) → k < i → (get_or rows k row).chunk.0 ≡ row.chunk.0 → ⊥
    apart k less same =
        let below : (get_or rows k row).chunk.0 < (get_or rows i row).chunk.0 = rise k i row less within in
        let under : (get_or rows k row).chunk.0 < row.chunk.0 = subst (λ (r : Row). (get_or rows k row).chunk.0 < r.chunk.0) here below in
        omega (arith, under, same)
