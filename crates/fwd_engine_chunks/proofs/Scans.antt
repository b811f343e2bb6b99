-- Lists that are collected from rows and numbers.
use Rattle.std.proofs.Common.{◌≡◌, ℕ, ◌+◌, Bool, true, false, not, cond, List, [], ◌∷◌, ◌++◌, get_or, take, Option, Some, None, map, refl, sym, ◌∙◌, ap, arith}
use Rattle.std.specs.Prelude.{filter, option_map}
use Rattle.std.specs.List.{range_with_len}
use Rattle.std.proofs.lemmas.List.{map-append, append-nil}
use Rattle.std.proofs.lemmas.List.Elements.{filter-append}
use Rattle.std.proofs.lemmas.List.FromFn.{filter_of_map_range_with_len_more}
use Rattle.fwd_base.specs.declared.ids.ChunkId.{ChunkId}
use Rattle.fwd_table.specs.Row.{Row}
use Rattle.fwd_table.specs.RowSeen.{RowSeen}
use Rattle.fwd_table.specs.Rows.{rows_at, seen_of}
use Rattle.fwd_table.proofs.SlotRows.{none_seen, one_seen}

-- ---- chunks that are open

abbrev open_of : List Row → List ChunkId
open_of rows = map (λ (row : Row). row.chunk) (filter (λ (row : Row). not row.shut) rows)

one_open : (b : Bool) (row : Row) → map (λ (row : Row). row.chunk) (cond b (row ∷ []) []) ≡ cond b (row.chunk ∷ []) []
one_open true row = refl
one_open false row = refl

module _ (places : List (Option Row)) (n : ℕ) where
  abbrev so_far : List ChunkId
  so_far = open_of (rows_at (take n places))

  open_goes : (seen : RowSeen) → Some seen ≡ option_map seen_of (get_or places n None) → open_of (rows_at (take (n + 1) places)) ≡ so_far ++ cond (not seen.shut) (seen.chunk ∷ []) []
  open_goes seen there =
      let at = one_seen seen_of places n seen there in
      let front : List Row = filter (λ (row : Row). not row.shut) (rows_at (take n places)) in
      ap open_of at.more
      ∙ ap (map (λ (row : Row). row.chunk)) (filter-append (λ (row : Row). not row.shut) (rows_at (take n places)) (at.row ∷ []))
      ∙ map-append (λ (row : Row). row.chunk) front (cond (not at.row.shut) (at.row ∷ []) [])
      ∙ ap (λ (l : List ChunkId). so_far ++ l) (one_open (not at.row.shut) at.row)
      ∙ ap (λ (x : RowSeen). so_far ++ cond (not x.shut) (x.chunk ∷ []) []) (sym at.is)

  pub open_more : (seen : RowSeen) → Some seen ≡ option_map seen_of (get_or places n None) → not seen.shut ≡ true → open_of (rows_at (take (n + 1) places)) ≡ so_far ++ seen.chunk ∷ []
  open_more seen there is = open_goes seen there ∙ ap (λ (b : Bool). so_far ++ cond b (seen.chunk ∷ []) []) is

  pub open_same : (seen : RowSeen) → Some seen ≡ option_map seen_of (get_or places n None) → not seen.shut ≡ false → open_of (rows_at (take (n + 1) places)) ≡ so_far
  open_same seen there is = open_goes seen there ∙ ap (λ (b : Bool). so_far ++ cond b (seen.chunk ∷ []) []) is ∙ append-nil so_far

  -- a place without a row
  pub open_none : None ≡ option_map seen_of (get_or places n None) → open_of (rows_at (take (n + 1) places)) ≡ so_far
  open_none is = ap open_of (none_seen seen_of places n is)

-- ---- numbers

as_it_is : (ns : List ℕ) → map (λ (n : ℕ). n) ns ≡ ns
as_it_is [] = refl
as_it_is (n ∷ ns) = ap (λ (l : List ℕ). n ∷ l) (as_it_is ns)

number_goes : (p : ℕ → Bool) (n : ℕ) → filter p (range_with_len 0 (n + 1)) ≡ filter p (range_with_len 0 n) ++ cond (p n) (n ∷ []) []
number_goes p n =
    ap (filter p) (sym (as_it_is (range_with_len 0 (n + 1))))
    ∙ filter_of_map_range_with_len_more p (λ (m : ℕ). m) 0 n n (omega arith)
    ∙ ap (λ (l : List ℕ). filter p l ++ cond (p n) (n ∷ []) []) (as_it_is (range_with_len 0 n))

pub number_more : (p : ℕ → Bool) (n : ℕ) → p n ≡ true → filter p (range_with_len 0 (n + 1)) ≡ filter p (range_with_len 0 n) ++ n ∷ []
number_more p n is = number_goes p n ∙ ap (λ (b : Bool). filter p (range_with_len 0 n) ++ cond b (n ∷ []) []) is

pub number_same : (p : ℕ → Bool) (n : ℕ) → p n ≡ false → filter p (range_with_len 0 (n + 1)) ≡ filter p (range_with_len 0 n)
number_same p n is = number_goes p n ∙ ap (λ (b : Bool). filter p (range_with_len 0 n) ++ cond b (n ∷ []) []) is ∙ append-nil (filter p (range_with_len 0 n))
