-- What an output evicts next is idle.
use Rattle.std.proofs.Common.{◌≡◌, ℕ, ◌+◌, ◌-◌, Bool, true, false, ◌&&◌, not, inl, inr, List, [], ◌∷◌, Option, Some, None, map, refl, ap, arith}
use Rattle.std.specs.Prelude.{◌==◌, filter, find, nat_lt, nat_le, is_some}
use Rattle.std.specs.List.{list_any}
use Rattle.std.specs.Option.{option_map_or}
use Rattle.std.proofs.lemmas.Bool.{cases_Bool, cases_eq, ne_eqb, eq-eqb}
use Rattle.fwd_base.specs.declared.ids.ChunkId.{ChunkId}
use Rattle.fwd_base.specs.declared.ids.OutputId.{OutputId}
use Rattle.fwd_settings.specs.declared.settings_types.AllSettings.{AllSettings}
use Rattle.fwd_table.specs.Route.{Route as Owed}
use Rattle.fwd_table.specs.Row.{Row}
use Rattle.fwd_table.specs.Routes.{is_to, flying_of}
use Rattle.fwd_table.specs.Rows.{is_row_of, row_at, waits_for, is_route_idle}
use Rattle.fwd_table.specs.Usage.{in_file, is_flying, is_waiting, size_of}
use Rattle.fwd_limits.specs.Evictions.{other_waiting, fixed, evicted_among, first_chunk, next_eviction}
use Rattle.fwd_limits.specs.declared.eviction.Loss.TheVariants.{Lose}
use Rattle.fwd_model.specs.Fact.{History}
use Rattle.fwd_model.specs.Chunks.{ChunkInfo, chunks_of, next}
use Rattle.fwd_model.specs.Routes.{route, is_owed, is_idle, row_of, rows_of}
use Rattle.fwd_engine_state.specs.Views.{chunk_id}
use Rattle.fwd_engine_state.specs.StateRepresents.{NumbersRise}
use Rattle.fwd_engine_state.proofs.PendingRows.{no_row}
use Rattle.fwd_engine_state.proofs.Evictions.{by_loss}
use Rattle.fwd_engine_state.proofs.ChunkOrder.{none_before}

both_true : (a b : Bool) → (a && b) ≡ true → (a ≡ true) × (b ≡ true)
both_true true b is = (refl, is)
both_true false b is = absurd (cc is)

not_is : (b : Bool) → not b ≡ true → b ≡ false
not_is true is = absurd (cc is)
not_is false is = refl

-- a route that exists and isn't in flight
still_there : (o : OutputId) (routes : List Owed) → list_any (is_to o) routes ≡ true → list_any (is_to o) (flying_of routes) ≡ false → option_map_or (λ (x : Owed). not x.flying) (find (is_to o) routes) false ≡ true
still_there o [] any none = absurd (cc any)
still_there o (x ∷ xs) any none = elim (cases_Bool (is_to o x)) [
  | inl is ↦ elim (cases_Bool x.flying) [
    | inl flies ↦ absurd (cc (rw (flies, is) at none))
    | inr still ↦ rw is (ap not still)
  ]
  | inr isnt ↦ elim (cases_Bool x.flying) [
    | inl flies ↦ rw isnt (still_there o xs (rw isnt at any) (rw (flies, isnt) at none))
    | inr still ↦ rw isnt (still_there o xs (rw isnt at any) (rw still at none))
  ]
]

and_is : (a b : Bool) → a ≡ true → b ≡ true → (a && b) ≡ true
and_is a b one two = rw (one, two) refl

waits_is : (o : OutputId) (chunk : ChunkId) (row : Row) → (in_file row && (is_waiting o row && not (is_row_of chunk row))) ≡ true → waits_for o row ≡ true
waits_is o chunk row is =
    let one = both_true (in_file row) (is_waiting o row && not (is_row_of chunk row)) is in
    let two = both_true (is_waiting o row) (not (is_row_of chunk row)) one.1 in
    let three = both_true row.shut (list_any (is_to o) row.routes && not (is_flying o row)) two.0 in
    let four = both_true (list_any (is_to o) row.routes) (not (is_flying o row)) three.1 in
    and_is row.shut (option_map_or (λ (x : Owed). not x.flying) (find (is_to o) row.routes) false) three.0 (still_there o row.routes four.0 (not_is _ four.1))

not_idle : (o : OutputId) (at : Option Row) → is_some at ≡ false → option_map_or (waits_for o) at false ≡ true → ⊥
not_idle o None none is = absurd (cc is)
not_idle o (Some row) none is = absurd (cc none)

idle_in : (s : AllSettings) (h : History) (o : OutputId) (chunk first : ChunkId) (least past : ℕ) (cs : List ChunkInfo) → NumbersRise least past cs → first_chunk (other_waiting o chunk (map (row_of s h) (filter (is_owed s h) cs))) ≡ Some first
    → is_route_idle first o (map (row_of s h) (filter (is_owed s h) cs)) ≡ true
idle_in s h o chunk first least past [] rise is = absurd (cc is)
idle_in s h o chunk first least past (c ∷ cs) rise is = elim (cases_Bool (is_owed s h c)) [
  | inl owes ↦ elim (cases_Bool (in_file (row_of s h c) && (is_waiting o (row_of s h c) && not (is_row_of chunk (row_of s h c))))) [
    | inl waits ↦
        let same : chunk_id c.number ≡ first = let e : Some (chunk_id c.number) ≡ Some first = rw (owes, waits) at is in cc e in
        let here : (c.number == first.0) ≡ true = eq-eqb c.number first.0 (ap (λ (n : ChunkId). n.0) same) in
        rw (owes, here) (waits_is o chunk (row_of s h c) waits)
    | inr fails ↦
        let rest = idle_in s h o chunk first (c.number + 1) past cs rise.2 (rw (owes, fails) at is) in
        elim (cases_eq c.number first.0) [
          | inl same ↦ absurd (not_idle o (row_at first (map (row_of s h) (filter (is_owed s h) cs))) (no_row s h first.0 cs (none_before (c.number + 1) past first.0 cs rise.2 (omega (arith, same)))) rest)
          | inr differs ↦ rw (owes, ne_eqb c.number first.0 differs) rest
        ]
  ]
  | inr none ↦ rw none (idle_in s h o chunk first (c.number + 1) past cs rise.2 (rw none at is))
]

first_of : (room : ℕ) (rows : List Row) (first : ChunkId) → first_chunk (evicted_among room rows) ≡ Some first → first_chunk rows ≡ Some first
first_of room [] first is = is
first_of room (row ∷ rows) first is = elim (cases_Bool (nat_le (size_of (row ∷ rows)) room)) [ inl fits ↦ absurd (cc (rw fits at is)) | inr over ↦ rw over at is ]

pub lose_idle : (s : AllSettings) (h : History) (output : OutputId) (limit : ℕ) (chunk first : ChunkId) → NumbersRise 0 (next h) (chunks_of h) → next_eviction output limit chunk (rows_of s h) ≡ Lose first → is_idle s h (route first.0 output.0) ≡ true
lose_idle s h output limit chunk first rise is = elim (cases_Bool (nat_lt limit (fixed output chunk (rows_of s h)))) [
  | inl over ↦ absurd (cc (rw over at is))
  | inr within ↦ idle_in s h output chunk first 0 (next h) (chunks_of h) rise (first_of (limit - fixed output chunk (rows_of s h)) (other_waiting output chunk (rows_of s h)) first (by_loss _ first (rw within at is)))
]
