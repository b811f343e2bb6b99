-- What outputs evict after a chunk has closed, output by output.
use Rattle.std.proofs.Common.{◌≡◌, ℕ, Bool, true, false, ◌&&◌, not, inl, inr, List, [], ◌∷◌, ◌++◌, length, Option, Some, None, map, refl, sym, ◌∙◌, ap, arith}
use Rattle.std.specs.Prelude.{◌==◌, find}
use Rattle.std.specs.Option.{option_map_or}
use Rattle.std.proofs.lemmas.Bool.{cases_Bool, ne_eqb, eqb-true}
use Rattle.fwd_base.specs.declared.ids.ChunkId.{ChunkId}
use Rattle.fwd_base.specs.declared.ids.OutputId.{OutputId}
use Rattle.fwd_settings.specs.declared.settings_types.AllSettings.{AllSettings}
use Rattle.fwd_table.specs.Route.{Route as Owed}
use Rattle.fwd_table.specs.Row.{Row}
use Rattle.fwd_table.specs.Routes.{is_to, without_output}
use Rattle.fwd_table.specs.Rows.{is_row_of, on_chunk, resolved_to, owed_rows, is_owed_row, waits_for, is_route_idle}
use Rattle.fwd_table.specs.Usage.{is_file}
use Rattle.fwd_limits.specs.Evictions.{next_eviction}
use Rattle.fwd_limits.specs.declared.eviction.Loss.TheVariants.{Fits, Lose, NewLoses}
use Rattle.fwd_model.specs.Fact.{History, Route, OnRoute, Evicted}
use Rattle.fwd_model.specs.Settings.{total_limit_at}
use Rattle.fwd_model.specs.Chunks.{ChunkInfo, chunks_of, chunk_at, next}
use Rattle.fwd_model.specs.Routes.{route, is_idle, owed, owes, home_of, rows_of}
use Rattle.fwd_model.specs.Limits.{evictions_to, evictions_for, evicted_at}
use Rattle.fwd_engine_state.specs.Views.{chunk_id, output_id}
use Rattle.fwd_engine_state.specs.StateRepresents.{NumbersRise}
use Rattle.fwd_engine_state.specs.Evictions.{evictions_left, IsIdleToOthers}
use Rattle.fwd_engine_state.proofs.RowsAddedAndRemoved.{rows_ended}
use Rattle.fwd_engine_state.proofs.PendingRows.{has_owes}
use Rattle.fwd_engine_state.proofs.IdleRoutes.{idle_has}
use Rattle.fwd_engine_state.proofs.Evictions.{fits_next, new_next, lose_next}
use Rattle.fwd_engine_state.proofs.EvictionIndependence.{lost_same}

-- ---- an idle route stays idle

found_without : (gone other : ℕ) → (gone == other) ≡ false → (routes : List Owed) → find (is_to (output_id other)) (without_output (output_id gone) routes) ≡ find (is_to (output_id other)) routes
found_without gone other apart [] = refl
found_without gone other apart (x ∷ xs) = elim (cases_Bool (x.output.0 == gone)) [
  | inl is ↦
      let differs : (x.output.0 == other) ≡ false = ap (λ (n : ℕ). n == other) (eqb-true x.output.0 gone is) ∙ apart in
      rw (is, differs) (found_without gone other apart xs)
  | inr isnt ↦ elim (cases_Bool (x.output.0 == other)) [
    | inl same ↦ rw (isnt, same) refl
    | inr differs ↦ rw (isnt, differs) (found_without gone other apart xs)
  ]
]

some_there : (o : OutputId) (routes : List Owed) → option_map_or (λ (x : Owed). not x.flying) (find (is_to o) routes) false ≡ true → not (length routes == 0) ≡ true
some_there o [] is = absurd (cc is)
some_there o (x ∷ xs) is = let more : (length (x ∷ xs) == 0) ≡ false = ne_eqb (length (x ∷ xs)) 0 (λ e. absurd (omega (arith, e))) in rw more refl

both_true : (a b : Bool) → (a && b) ≡ true → (a ≡ true) × (b ≡ true)
both_true true b is = (refl, is)
both_true false b is = absurd (cc is)

waits_owed : (o : OutputId) (row : Row) → waits_for o row ≡ true → is_owed_row row ≡ true
waits_owed o row is = some_there o row.routes (both_true row.shut _ is).1

waits_still : (gone other : ℕ) → (gone == other) ≡ false → (row : Row) → waits_for (output_id other) (resolved_to (output_id gone) row) ≡ waits_for (output_id other) row
waits_still gone other apart row = ap (λ (x : Option Owed). row.shut && option_map_or (λ (x : Owed). not x.flying) x false) (found_without gone other apart row.routes)

-- after a first row that may be evicted
idle_behind : (k other : ℕ) (row : Row) (rows : List Row) → is_row_of (chunk_id k) row ≡ false → is_route_idle (chunk_id k) (output_id other) (owed_rows (row ∷ rows)) ≡ is_route_idle (chunk_id k) (output_id other) (owed_rows rows)
idle_behind k other row rows isnt = elim (cases_Bool (is_owed_row row)) [ inl owed ↦ rw (owed, isnt) refl | inr none ↦ rw none refl ]

-- a first row that is idle
idle_first : (k other : ℕ) (row : Row) (rows : List Row) → is_row_of (chunk_id k) row ≡ true → waits_for (output_id other) row ≡ true → is_route_idle (chunk_id k) (output_id other) (owed_rows (row ∷ rows)) ≡ true
idle_first k other row rows is waits = let owed = waits_owed (output_id other) row waits in rw (owed, is) waits

idle_in : (n gone k other : ℕ) → (gone == other) ≡ false → (rows : List Row) → is_route_idle (chunk_id k) (output_id other) rows ≡ true
    → is_route_idle (chunk_id k) (output_id other) (owed_rows (on_chunk (chunk_id n) (resolved_to (output_id gone)) rows)) ≡ true
idle_in n gone k other apart [] is = absurd (cc is)
idle_in n gone k other apart (row ∷ rows) is =
    let later : List Row = on_chunk (chunk_id n) (resolved_to (output_id gone)) rows in
    elim (cases_Bool (is_row_of (chunk_id k) row)) [
      | inl own ↦
          let waits : waits_for (output_id other) row ≡ true = rw own at is in
          elim (cases_Bool (is_row_of (chunk_id n) row)) [
            | inl changed ↦ rw changed (idle_first k other (resolved_to (output_id gone) row) (on_chunk (chunk_id n) (resolved_to (output_id gone)) rows) own (waits_still gone other apart row ∙ waits))
            | inr kept ↦ rw kept (idle_first k other row (on_chunk (chunk_id n) (resolved_to (output_id gone)) rows) own waits)
          ]
      | inr isnt ↦
          let rest = idle_in n gone k other apart rows (rw isnt at is) in
          elim (cases_Bool (is_row_of (chunk_id n) row)) [
            | inl changed ↦ rw changed (idle_behind k other (resolved_to (output_id gone) row) (on_chunk (chunk_id n) (resolved_to (output_id gone)) rows) isnt ∙ rest)
            | inr kept ↦ rw kept (idle_behind k other row (on_chunk (chunk_id n) (resolved_to (output_id gone)) rows) isnt ∙ rest)
          ]
    ]

pub idle_still : (s : AllSettings) (h : History) (r : Route) (chunk other : ℕ) → (r.output == other) ≡ false → is_idle s h (route chunk other) ≡ true → is_idle s (OnRoute r Evicted ∷ h) (route chunk other) ≡ true
idle_still s h r chunk other apart is = ap (is_route_idle (chunk_id chunk) (output_id other)) (sym (rows_ended s r Evicted h refl)) ∙ idle_in r.chunk r.output chunk other apart (rows_of s h) is

-- ---- the outputs, one after another

owes_still : (s : AllSettings) (h : History) (r : Route) (chunk other : ℕ) → NumbersRise 0 (next h) (chunks_of h) → (r.output == other) ≡ false → is_idle s h (route chunk other) ≡ true → owes s (OnRoute r Evicted ∷ h) chunk ≡ true
owes_still s h r chunk other rise apart is =
    sym (has_owes s (OnRoute r Evicted ∷ h) chunk rise) ∙ idle_has s (OnRoute r Evicted ∷ h) (route chunk other) (idle_still s h r chunk other apart is)

same_to : (s : AllSettings) (h : History) (r : Route) (chunk other : ℕ) (limit : Option ℕ) → NumbersRise 0 (next h) (chunks_of h) → (r.output == other) ≡ false → is_idle s h (route chunk other) ≡ true
    → evictions_to s h chunk other limit ≡ evictions_to s (OnRoute r Evicted ∷ h) chunk other limit
same_to s h r chunk other None rise apart is = refl
same_to s h r chunk other (Some limit) rise apart is = sym (ap (map (λ (lost : ChunkId). route lost.0 other)) (lost_same s r h other apart limit chunk rise (owes_still s h r chunk other rise apart is)))

others_left : (s : AllSettings) (h : History) (r : Route) (chunk : ℕ) → NumbersRise 0 (next h) (chunks_of h) → (others : List ℕ) → IsIdleToOthers s h chunk r.output others
    → evictions_left s h chunk others ≡ evictions_left s (OnRoute r Evicted ∷ h) chunk others
others_left s h r chunk rise [] waits = refl
others_left s h r chunk rise (other ∷ others) waits =
    let rest = others_left s h r chunk rise others waits.2 in
    λ i. same_to s h r chunk other (total_limit_at s other) rise waits.0 waits.1 i ++ rest i

pub all_lost : (s : AllSettings) (h : History) (chunk : ℕ) (c : ChunkInfo) → chunk_at h chunk ≡ Some c → is_file (home_of s c.input) ≡ true → evicted_at s h chunk ≡ evictions_left s h chunk (owed s h c)
all_lost s h chunk c is file =
    let number = found_number chunk (chunks_of h) c is in
    ap (evictions_for s h) is ∙ rw file (ap (λ (n : ℕ). evictions_left s h n (owed s h c)) number)
  where
    found_number : (k : ℕ) (cs : List ChunkInfo) (c : ChunkInfo) → find (λ (c : ChunkInfo). c.number == k) cs ≡ Some c → c.number ≡ k
    found_number k [] c is = absurd (cc is)
    found_number k (x ∷ xs) c is = elim (cases_Bool (x.number == k)) [
      | inl same ↦ let it : x ≡ c = let e : Some x ≡ Some c = rw same at is in cc e in ap (λ (y : ChunkInfo). y.number) (sym it) ∙ eqb-true x.number k same
      | inr differs ↦ found_number k xs c (rw differs at is)
    ]

pub none_lost : (s : AllSettings) (h : History) (chunk : ℕ) (c : ChunkInfo) → chunk_at h chunk ≡ Some c → is_file (home_of s c.input) ≡ false → evicted_at s h chunk ≡ []
none_lost s h chunk c is memory = ap (evictions_for s h) is ∙ rw memory refl

pub unlimited : (s : AllSettings) (h : History) (chunk output : ℕ) (outputs : List ℕ) → total_limit_at s output ≡ None → evictions_left s h chunk (output ∷ outputs) ≡ evictions_left s h chunk outputs
unlimited s h chunk output outputs is = ap (λ (limit : Option ℕ). evictions_to s h chunk output limit ++ evictions_left s h chunk outputs) is

at_limit : (s : AllSettings) (h : History) (chunk output limit : ℕ) (outputs : List ℕ) → total_limit_at s output ≡ Some limit → evictions_left s h chunk (output ∷ outputs) ≡ evictions_to s h chunk output (Some limit) ++ evictions_left s h chunk outputs
at_limit s h chunk output limit outputs is = ap (λ (limit : Option ℕ). evictions_to s h chunk output limit ++ evictions_left s h chunk outputs) is

module _ (s : AllSettings) (h : History) (output : OutputId) (limit : ℕ) (chunk : ChunkId) (outputs : List ℕ) (rise : NumbersRise 0 (next h) (chunks_of h)) (limited : total_limit_at s output.0 ≡ Some limit) where
  abbrev named : List ChunkId → List Route
  named lost = map (λ (c : ChunkId). route c.0 output.0) lost

  pub fits_in_turn : next_eviction output limit chunk (rows_of s h) ≡ Fits → evictions_left s h chunk.0 (output.0 ∷ outputs) ≡ evictions_left s h chunk.0 outputs
  fits_in_turn is = at_limit s h chunk.0 output.0 limit outputs limited ∙ ap (λ (lost : List ChunkId). named lost ++ evictions_left s h chunk.0 outputs) (fits_next s h output limit chunk rise is)

  pub new_in_turn : IsIdleToOthers s h chunk.0 output.0 outputs → next_eviction output limit chunk (rows_of s h) ≡ NewLoses
      → evictions_left s h chunk.0 (output.0 ∷ outputs) ≡ route chunk.0 output.0 ∷ evictions_left s (OnRoute (route chunk.0 output.0) Evicted ∷ h) chunk.0 outputs
  new_in_turn waits is =
      at_limit s h chunk.0 output.0 limit outputs limited
      ∙ ap (λ (lost : List ChunkId). named lost ++ evictions_left s h chunk.0 outputs) (new_next s h output limit chunk rise is)
      ∙ ap (λ (l : List Route). route chunk.0 output.0 ∷ l) (others_left s h (route chunk.0 output.0) chunk.0 rise outputs waits)

  pub lose_in_turn : (first : ChunkId) → IsIdleToOthers s h chunk.0 output.0 outputs → next_eviction output limit chunk (rows_of s h) ≡ Lose first
      → evictions_left s h chunk.0 (output.0 ∷ outputs) ≡ route first.0 output.0 ∷ evictions_left s (OnRoute (route first.0 output.0) Evicted ∷ h) chunk.0 (output.0 ∷ outputs)
  lose_in_turn first waits is =
      let later : History = OnRoute (route first.0 output.0) Evicted ∷ h in
      at_limit s h chunk.0 output.0 limit outputs limited
      ∙ ap (λ (lost : List ChunkId). named lost ++ evictions_left s h chunk.0 outputs) (lose_next s h output limit chunk first rise is)
      ∙ ap (λ (l : List Route). route first.0 output.0 ∷ evictions_to s (OnRoute (route first.0 output.0) Evicted ∷ h) chunk.0 output.0 (Some limit) ++ l) (others_left s h (route first.0 output.0) chunk.0 rise outputs waits)
      ∙ ap (λ (l : List Route). route first.0 output.0 ∷ l) (sym (at_limit s (OnRoute (route first.0 output.0) Evicted ∷ h) chunk.0 output.0 limit outputs limited))
