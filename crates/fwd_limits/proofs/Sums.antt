-- The rows that pass a test, slot by slot.
use Prim.Native.Nat.{◌^◌}
use Rattle.std.proofs.Common.{◌≡◌, ℕ, ◌+◌, ◌<◌, Bool, true, false, cond, eqb, List, [], ◌∷◌, ◌++◌, length, get_or, take, drop, refl, sym, ap, ◌∙◌, arith, Option, Some, None}
use Rattle.std.specs.Prelude.{filter, option_map}
use Rattle.std.proofs.lemmas.List.Sums.{sum_by-cons}
use Rattle.std.proofs.lemmas.Nat.{pow_pos}
use Rattle.std.proofs.lemmas.Bool.Decides.{nat_tests}
use Rattle.std.proofs.lemmas.List.Elements.{filter-append}
use Rattle.fwd_base.specs.declared.ids.ChunkId.{ChunkId}
use Rattle.fwd_limits.specs.Evictions.{first_chunk}
use Rattle.fwd_table.specs.Row.{Row}
use Rattle.fwd_table.specs.Route.{Route}
use Rattle.fwd_table.specs.Routes.{mask_of}
use Rattle.fwd_table.specs.Rows.{rows_at}
use Rattle.fwd_table.specs.Usage.{size_of}
use Rattle.fwd_table.proofs.SlotRows.{StandsAs, one_seen, places_part}

pub size_if : (test : Bool) (row : Row) → size_of (cond test (row ∷ []) []) ≡ cond test row.size 0
size_if true row = omega arith
size_if false row = refl

-- a mask of routes is 0 exactly if there are none
pub mask_none : (routes : List Route) → eqb (mask_of routes) 0 ≡ eqb (length routes) 0
mask_none [] = refl
mask_none (r ∷ routes) =
    let sum = sum_by-cons (λ (s : Route). 2 ^ s.output.0) r routes in
    let some = pow_pos r.output.0 in
    let not_none : 0 < mask_of (r ∷ routes) = omega (arith, sum, some) in
    let here : eqb (mask_of (r ∷ routes)) 0 ≡ false = grind (arith, nat_tests) in
    let long : 0 < length (r ∷ routes) = omega arith in
    let there : eqb (length (r ∷ routes)) 0 ≡ false = grind (arith, nat_tests) in
    here ∙ sym there

-- ---- slot by slot

module _ {T : Type 0} (see : Row → T) (test : T → Bool) (p : Row → Bool) (counts : (row : Row) → test (see row) ≡ p row) (places : List (Option Row)) (n : ℕ) where
  -- the rows that pass so far
  abbrev passed : List Row
  passed = filter p (rows_at (take n places))

  one_more : (seen : T) (at : StandsAs T see places n seen) → filter p (rows_at (take (n + 1) places)) ≡ passed ++ cond (test seen) (at.row ∷ []) []
  one_more seen at =
      let tested : p at.row ≡ test seen = sym (counts at.row) ∙ ap test (sym at.is) in
      ap (filter p) at.more ∙ filter-append p (rows_at (take n places)) (at.row ∷ []) ∙ ap (λ (b : Bool). passed ++ cond b (at.row ∷ []) []) tested

  -- none passes so far
  pub none_goes : (seen : T) → Some seen ≡ option_map see (get_or places n None) → test seen ≡ false → passed ≡ [] → filter p (rows_at (take (n + 1) places)) ≡ []
  none_goes seen there fails none =
      let at = one_seen see places n seen there in
      one_more seen at ∙ ap (λ (b : Bool). passed ++ cond b (at.row ∷ []) []) fails ∙ ap (λ (rows : List Row). rows ++ []) none

  -- the first one that passes
  pub first_is : (chunk : T → ChunkId) → ((row : Row) → chunk (see row) ≡ row.chunk) → (seen : T) → Some seen ≡ option_map see (get_or places n None) → test seen ≡ true → passed ≡ []
      → Some (chunk seen) ≡ first_chunk (filter p (rows_at places))
  first_is chunk names seen there passes none =
      let at = one_seen see places n seen there in
      let front : filter p (rows_at (take (n + 1) places)) ≡ at.row ∷ [] = one_more seen at ∙ ap (λ (b : Bool). passed ++ cond b (at.row ∷ []) []) passes ∙ ap (λ (rows : List Row). rows ++ at.row ∷ []) none in
      let behind : List Row = rows_at (drop (n + 1) places) in
      let all : filter p (rows_at places) ≡ at.row ∷ filter p behind =
      ap (filter p) (places_part places (n + 1)) ∙ filter-append p (rows_at (take (n + 1) places)) behind ∙ ap (λ (rows : List Row). rows ++ filter p behind) front in
      ap Some (ap chunk at.is ∙ names at.row) ∙ sym (ap first_chunk all)
