-- Properties of idle routes.
use Rattle.std.proofs.Common.{◌≡◌, ℕ, true, false, ◌&&◌, not, inl, inr, List, [], ◌∷◌, Option, Some, None, map, refl, sym, ◌∙◌, ap}
use Rattle.std.specs.Prelude.{◌==◌, filter, find, is_some}
use Rattle.std.specs.Option.{option_map_or}
use Rattle.std.proofs.lemmas.Bool.{cases_Bool, eqb-true}
use Rattle.fwd_settings.specs.declared.settings_types.AllSettings.{AllSettings}
use Rattle.fwd_flush.specs.FlushProgram.{Progress}
use Rattle.fwd_table.specs.Routes.{is_to}
use Rattle.fwd_table.specs.Rows.{row_at, has_row, waits_for}
use Rattle.fwd_table.specs.Row.{Row}
use Rattle.fwd_table.specs.Route.{Route as Owed}
use Rattle.fwd_model.specs.Fact.{History, Route}
use Rattle.fwd_model.specs.Chunks.{ChunkInfo, chunks_of, is_closed, next}
use Rattle.fwd_model.specs.Routes.{flight, owed, is_owed, is_idle, table_route, row_of, rows_of}
use Rattle.fwd_engine_state.specs.Views.{chunk_id, output_id}
use Rattle.fwd_engine_state.specs.StateRepresents.{NumbersRise, IsClosedRoute}
use Rattle.fwd_engine_state.proofs.PendingRows.{has_given}

-- the row that is found is the row of the chunk with this number
found_row : (s : AllSettings) (h : History) (k : ℕ) (cs : List ChunkInfo) (row : Row) → row_at (chunk_id k) (map (row_of s h) (filter (is_owed s h) cs)) ≡ Some row → (c : ChunkInfo) × (c.number ≡ k) × (row ≡ row_of s h c)
found_row s h k [] row there = absurd (cc there)
found_row s h k (c ∷ cs) row there = elim (cases_Bool (is_owed s h c)) [
  | inl is ↦ elim (cases_Bool (c.number == k)) [
    | inl same ↦ (c, eqb-true c.number k same, let e : Some (row_of s h c) ≡ Some row = rw (is, same) at there in cc (sym e))
    | inr differs ↦ found_row s h k cs row (rw (is, differs) at there)
  ]
  | inr isnt ↦ found_row s h k cs row (rw isnt at there)
]

-- the route that is found is as the history says
found_route : (s : AllSettings) (h : History) (m o : ℕ) (ns : List ℕ) (x : Owed) → find (is_to (output_id o)) (map (table_route s h m) ns) ≡ Some x → x ≡ table_route s h m o
found_route s h m o [] x there = absurd (cc there)
found_route s h m o (n ∷ ns) x there = elim (cases_Bool (n == o)) [
  | inl same ↦ let e : Some (table_route s h m n) ≡ Some x = rw same at there in (let y : x ≡ table_route s h m n = cc (sym e) in y) ∙ ap (table_route s h m) (eqb-true n o same)
  | inr differs ↦ found_route s h m o ns x (rw differs at there)
]

-- what an idle route is, in terms of its row
idle_is : (s : AllSettings) (h : History) (r : Route) (at : Option Row) → row_at (chunk_id r.chunk) (rows_of s h) ≡ at → option_map_or (waits_for (output_id r.output)) at false ≡ true
    → (row : Row) × (row_at (chunk_id r.chunk) (rows_of s h) ≡ Some row) × (waits_for (output_id r.output) row ≡ true)
idle_is s h r None is idle = absurd (cc idle)
idle_is s h r (Some row) is idle = (row, is, idle)

waits_is : (o : ℕ) (row : Row) (to : Option Owed) → find (is_to (output_id o)) row.routes ≡ to → (row.shut && option_map_or (λ (x : Owed). not x.flying) to false) ≡ true
    → (row.shut ≡ true) × ((x : Owed) × (find (is_to (output_id o)) row.routes ≡ Some x) × (x.flying ≡ false))
waits_is o row None is waits = elim (cases_Bool row.shut) [
  | inl shut ↦ absurd (cc (rw shut at waits))
  | inr open_still ↦ absurd (cc (rw open_still at waits))
]
waits_is o row (Some x) is waits = elim (cases_Bool row.shut) [
  | inl shut ↦ elim (cases_Bool x.flying) [
    | inl flies ↦ absurd (cc (rw (shut, flies) at waits))
    | inr still ↦ (shut, (x, is, still))
  ]
  | inr open_still ↦ absurd (cc (rw open_still at waits))
]

none_from : (o : Option Progress) → is_some o ≡ false → o ≡ None
none_from None is = refl
none_from (Some p) is = absurd (cc is)

module _ (s : AllSettings) (h : History) (r : Route) (idle : is_idle s h r ≡ true) where
  the_row : (row : Row) × (row_at (chunk_id r.chunk) (rows_of s h) ≡ Some row) × (waits_for (output_id r.output) row ≡ true)
  the_row = idle_is s h r (row_at (chunk_id r.chunk) (rows_of s h)) refl idle

  its_chunk : (c : ChunkInfo) × (c.number ≡ r.chunk) × (the_row.0 ≡ row_of s h c)
  its_chunk = found_row s h r.chunk (chunks_of h) the_row.0 the_row.1

  its_route : (the_row.0.shut ≡ true) × ((x : Owed) × (find (is_to (output_id r.output)) the_row.0.routes ≡ Some x) × (x.flying ≡ false))
  its_route = waits_is r.output the_row.0 (find (is_to (output_id r.output)) the_row.0.routes) refl the_row.2

  stands : its_route.1.0 ≡ table_route s h r.chunk r.output
  stands =
      let c = its_chunk.0 in
      let there : find (is_to (output_id r.output)) (map (table_route s h c.number) (owed s h c)) ≡ Some its_route.1.0 = ap (λ (row : Row). find (is_to (output_id r.output)) row.routes) (sym its_chunk.2) ∙ its_route.1.1 in
      found_route s h c.number r.output (owed s h c) its_route.1.0 there ∙ ap (λ (n : ℕ). table_route s h n r.output) its_chunk.1

  -- its row and its entry
  pub idle_route : (row : Row) × (row_at (chunk_id r.chunk) (rows_of s h) ≡ Some row) × (x : Owed) × (find (is_to (output_id r.output)) row.routes ≡ Some x)
  idle_route = (the_row.0, the_row.1, its_route.1.0, its_route.1.1)

  pub idle_flight : flight h r ≡ None
  idle_flight = none_from (flight h r) (ap (λ (x : Owed). x.flying) (sym stands) ∙ its_route.1.2)

  pub idle_closed : NumbersRise 0 (next h) (chunks_of h) → IsClosedRoute h r
  idle_closed rise =
      let shut : is_closed h its_chunk.0.number ≡ true = ap (λ (row : Row). row.shut) (sym its_chunk.2) ∙ its_route.0 in
      (ap (is_closed h) (sym its_chunk.1) ∙ shut, has_given s h r.chunk rise (rw the_row.1 refl))

  pub idle_has : has_row (chunk_id r.chunk) (rows_of s h) ≡ true
  idle_has = rw the_row.1 refl
