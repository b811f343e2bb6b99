-- The row of a chunk among rows that rise.
use Rattle.std.proofs.Common.{◌≡◌, ◌≢◌, inl, inr, suc, ◌<◌, true, false, List, [], ◌∷◌, get_or, None, refl, ap, arith}
use Rattle.std.specs.Prelude.{All, filter, option_to_list}
use Rattle.std.proofs.lemmas.Bool.{cases_eq, eq-eqb, ne_eqb}
use Rattle.std.proofs.lemmas.List.Elements.{All-head, All-tail}
use Rattle.fwd_base.specs.declared.ids.ChunkId.{ChunkId}
use Rattle.fwd_table_rows.specs.declared.row.Row.{Row}
use Rattle.fwd_table_rows.specs.Rows.{ChunksRise, is_row_of, row_at, on_chunk, without_chunk}

module _ (chunk : ChunkId) where
  abbrev IsOther : Row → Type 0
  IsOther row = row.chunk.0 ≢ chunk.0

  pub is_other : (row : Row) → IsOther row → is_row_of chunk row ≡ false
  is_other row other = ne_eqb row.chunk.0 chunk.0 other

  pub is_own : (row : Row) → row.chunk.0 ≡ chunk.0 → is_row_of chunk row ≡ true
  is_own row own = eq-eqb row.chunk.0 chunk.0 own

  -- ---- no row is of the chunk

  pub none_at : (rows : List Row) → All IsOther rows → row_at chunk rows ≡ None
  none_at [] others = refl
  none_at (row ∷ rows) others = rw (is_other row (All-head IsOther row rows others)) (none_at rows (All-tail IsOther row rows others))

  pub none_changes : (f : Row → Row) (rows : List Row) → All IsOther rows → on_chunk chunk f rows ≡ rows
  none_changes f [] others = refl
  none_changes f (row ∷ rows) others =
      rw (is_other row (All-head IsOther row rows others)) (ap (λ (l : List Row). row ∷ l) (none_changes f rows (All-tail IsOther row rows others)))

  pub none_goes : (rows : List Row) → All IsOther rows → without_chunk chunk rows ≡ rows
  none_goes [] others = refl
  none_goes (row ∷ rows) others =
      rw (is_other row (All-head IsOther row rows others)) (ap (λ (l : List Row). row ∷ l) (none_goes rows (All-tail IsOther row rows others)))

  -- ---- the row of a slot is of the chunk

  pub behind_rise : (row : Row) (rows : List Row) → ChunksRise (row ∷ rows) → ChunksRise rows
  behind_rise row rows rise i j d less within = rise (suc i) (suc j) d (omega (arith, less)) (omega (arith, within))

  pub others_behind : (row : Row) (rows : List Row) → ChunksRise (row ∷ rows) → row.chunk.0 ≡ chunk.0 → All IsOther rows
  others_behind row rows rise own k d within same =
      let less : row.chunk.0 < (get_or rows k d).chunk.0 = rise 0 (suc k) d (omega arith) (omega (arith, within)) in
      omega (arith, less, own, same)

  -- no other row is of the chunk
  pub alone_in : (rows : List Row) → ChunksRise rows → filter (is_row_of chunk) rows ≡ option_to_list (row_at chunk rows)
  alone_in [] rise = refl
  alone_in (row ∷ rows) rise = elim (cases_eq row.chunk.0 chunk.0) [
    | inl own ↦ rw (is_own row own, none_kept rows (others_behind row rows rise own)) refl
    | inr other ↦ rw (is_other row other) (alone_in rows (behind_rise row rows rise))
  ]
    where
      none_kept : (rows : List Row) → All IsOther rows → filter (is_row_of chunk) rows ≡ []
      none_kept [] others = refl
      none_kept (row ∷ rows) others = rw (is_other row (All-head IsOther row rows others)) (none_kept rows (All-tail IsOther row rows others))
