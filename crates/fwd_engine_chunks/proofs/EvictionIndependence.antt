-- What the eviction of a route leaves as it was.
use Rattle.std.proofs.Common.{◌≡◌, ◌≢◌, ℕ, ◌-◌, ◌≤◌, Bool, true, false, ◌&&◌, not, inl, inr, List, [], ◌∷◌, ◌++◌, length, Option, Some, None, map, refl, sym, ◌∙◌, ap, arith}
use Rattle.std.specs.Prelude.{◌==◌, filter, find, nat_lt, nat_le}
use Rattle.std.specs.Option.{option_map_or}
use Rattle.std.proofs.lemmas.Bool.{cases_Bool, ne_eqb, eqb-true}
use Rattle.std.proofs.lemmas.List.{length-map}
use Rattle.fwd_base.specs.declared.ids.ChunkId.{ChunkId}
use Rattle.fwd_base.specs.declared.ids.OutputId.{OutputId}
use Rattle.fwd_settings.specs.declared.settings_types.AllSettings.{AllSettings}
use Rattle.fwd_table.specs.Route.{Route as Owed}
use Rattle.fwd_table.specs.Row.{Row}
use Rattle.fwd_table.specs.Routes.{is_to}
use Rattle.fwd_table.specs.Rows.{is_row_of, on_chunk, resolved_to, owed_rows, is_owed_row, waits_for, is_route_idle}
use Rattle.fwd_table.specs.Usage.{size_of, in_file, is_waiting}
use Rattle.fwd_limits.specs.Evictions.{other_waiting, fixed, evicted_among, evicted_for}
use Rattle.fwd_model.specs.Fact.{History, Route, OnRoute, Evicted}
use Rattle.fwd_model.specs.Settings.{total_limit_at}
use Rattle.fwd_model.specs.Chunks.{chunks_of, next}
use Rattle.fwd_model.specs.Routes.{route, is_idle, owes, rows_of}
use Rattle.fwd_model.specs.Limits.{evictions_to}
use Rattle.fwd_model.specs.CloseActions.{loses}
use Rattle.fwd_model.specs.ResolveActions.{marks_or_removes}
use Rattle.fwd_engine_state.specs.Views.{chunk_id, output_id}
use Rattle.fwd_engine_state.specs.StateRepresents.{NumbersRise}
use Rattle.fwd_engine_state.specs.Evictions.{evictions_left}
use Rattle.fwd_engine_state.proofs.RowsAddedAndRemoved.{rows_ended}
use Rattle.fwd_engine_state.proofs.PendingRows.{has_owes}
use Rattle.fwd_engine_state.proofs.IdleRoutes.{idle_has}
use Rattle.fwd_engine_state.proofs.EvictionIndependence.{lost_same}
use Rattle.fwd_engine_state.proofs.EvictionsByOutput.{idle_still}
use Rattle.fwd_engine_chunks.specs.Evictions.{IsNotAmong, IsIdleToEach}
use Rattle.fwd_engine_chunks.proofs.ActionResults.{Ends, ends_bind, ends_more}
use Rattle.fwd_engine_chunks.proofs.ResolutionFrame.{Later, settles_later}

-- ---- a route of another chunk

both_true : (a b : Bool) → (a && b) ≡ true → (a ≡ true) × (b ≡ true)
both_true true b is = (refl, is)
both_true false b is = absurd (cc is)

some_there : (o : OutputId) (routes : List Owed) → option_map_or (λ (x : Owed). not x.flying) (find (is_to o) routes) false ≡ true → not (length routes == 0) ≡ true
some_there o [] is = absurd (cc is)
some_there o (x ∷ xs) is = let more : (length (x ∷ xs) == 0) ≡ false = ne_eqb (length (x ∷ xs)) 0 (λ e. absurd (omega (arith, e))) in rw more refl

waits_owed : (o : OutputId) (row : Row) → waits_for o row ≡ true → is_owed_row row ≡ true
waits_owed o row is = some_there o row.routes (both_true row.shut _ is).1

idle_behind : (k other : ℕ) (row : Row) (rows : List Row) → is_row_of (chunk_id k) row ≡ false → is_route_idle (chunk_id k) (output_id other) (owed_rows (row ∷ rows)) ≡ is_route_idle (chunk_id k) (output_id other) (owed_rows rows)
idle_behind k other row rows isnt = elim (cases_Bool (is_owed_row row)) [ inl owed ↦ rw (owed, isnt) refl | inr none ↦ rw none refl ]

idle_in : (n gone k other : ℕ) → k ≢ n → (rows : List Row) → is_route_idle (chunk_id k) (output_id other) rows ≡ true
    → is_route_idle (chunk_id k) (output_id other) (owed_rows (on_chunk (chunk_id n) (resolved_to (output_id gone)) rows)) ≡ true
idle_in n gone k other apart [] is = absurd (cc is)
idle_in n gone k other apart (row ∷ rows) is = elim (cases_Bool (is_row_of (chunk_id k) row)) [
  | inl own ↦
      let kept : is_row_of (chunk_id n) row ≡ false = ne_eqb row.chunk.0 n (λ e. apart (sym (eqb-true row.chunk.0 k own) ∙ e)) in
      let waits : waits_for (output_id other) row ≡ true = rw own at is in
      let owed = waits_owed (output_id other) row waits in
      rw (kept, owed, own) waits
  | inr isnt ↦
      let rest = idle_in n gone k other apart rows (rw isnt at is) in
      elim (cases_Bool (is_row_of (chunk_id n) row)) [
        | inl changed ↦ rw changed (idle_behind k other (resolved_to (output_id gone) row) (on_chunk (chunk_id n) (resolved_to (output_id gone)) rows) isnt ∙ rest)
        | inr kept ↦ rw kept (idle_behind k other row (on_chunk (chunk_id n) (resolved_to (output_id gone)) rows) isnt ∙ rest)
      ]
]

pub idle_beside : (s : AllSettings) (h : History) (r : Route) (chunk other : ℕ) → chunk ≢ r.chunk → is_idle s h (route chunk other) ≡ true → is_idle s (OnRoute r Evicted ∷ h) (route chunk other) ≡ true
idle_beside s h r chunk other apart is = ap (is_route_idle (chunk_id chunk) (output_id other)) (sym (rows_ended s r Evicted h refl)) ∙ idle_in r.chunk r.output chunk other apart (rows_of s h) is

-- ---- an output evicts each chunk at most once

few_kept : (p : Row → Bool) (rows : List Row) → length (filter p rows) ≤ length rows
few_kept p [] = omega arith
few_kept p (row ∷ rows) = let rest = few_kept p rows in elim (cases_Bool (p row)) [ inl is ↦ rw is (omega (arith, rest)) | inr isnt ↦ rw isnt (omega (arith, rest)) ]

few_among : (room : ℕ) (rows : List Row) → length (evicted_among room rows) ≤ length rows
few_among room [] = omega arith
few_among room (row ∷ rows) = let rest = few_among room rows in elim (cases_Bool (nat_le (size_of (row ∷ rows)) room)) [ inl fits ↦ rw fits (omega arith) | inr over ↦ rw over (omega (arith, rest)) ]

few_lost : (output : OutputId) (limit : ℕ) (chunk : ChunkId) (rows : List Row) → 1 ≤ length rows → length (evicted_for output limit chunk rows) ≤ length rows
few_lost output limit chunk rows some = elim (cases_Bool (nat_lt limit (fixed output chunk rows))) [
  | inl over ↦ rw over some
  | inr within ↦
      let long = length-map (evicted_among (limit - fixed output chunk rows) (other_waiting output chunk rows)) (λ (row : Row). row.chunk) in
      let among = few_among (limit - fixed output chunk rows) (other_waiting output chunk rows) in
      let kept = few_kept (λ (row : Row). in_file row && (is_waiting output row && not (is_row_of chunk row))) rows in
      rw within (omega (arith, long, among, kept))
]

some_rows : (k : ChunkId) (o : OutputId) (rows : List Row) → is_route_idle k o rows ≡ true → 1 ≤ length rows
some_rows k o [] is = absurd (cc is)
some_rows k o (row ∷ rows) is = omega arith

pub few_losses : (s : AllSettings) (h : History) (chunk output limit : ℕ) → is_idle s h (route chunk output) ≡ true → length (evictions_to s h chunk output (Some limit)) ≤ length (rows_of s h)
few_losses s h chunk output limit idle =
    let long = length-map (evicted_for (output_id output) limit (chunk_id chunk) (rows_of s h)) (λ (lost : ChunkId). route lost.0 output) in
    let few = few_lost (output_id output) limit (chunk_id chunk) (rows_of s h) (some_rows (chunk_id chunk) (output_id output) (rows_of s h) idle) in
    omega (arith, long, few)

-- ---- other outputs

-- a chunk stays idle to the other outputs, and these evict the same
pub record Elsewhere (s : AllSettings) (output chunk : ℕ) (h g : History) : Type 0 where
  pub chunks : chunks_of g ≡ chunks_of h
  pub number : next g ≡ next h
  pub idle : (other : ℕ) → (output == other) ≡ false → is_idle s h (route chunk other) ≡ true → is_idle s g (route chunk other) ≡ true
  pub lost : (other : ℕ) (limit : Option ℕ) → (output == other) ≡ false → is_idle s h (route chunk other) ≡ true → evictions_to s g chunk other limit ≡ evictions_to s h chunk other limit

abbrev pub losses_by : AllSettings → ℕ → ℕ → Option ℕ → List Row → List Route
losses_by s chunk output None rows = []
losses_by s chunk output (Some limit) rows = map (λ (lost : ChunkId). route lost.0 output) (evicted_for (output_id output) limit (chunk_id chunk) rows)

pub losses_are : (s : AllSettings) (h : History) (chunk output : ℕ) (limit : Option ℕ) → evictions_to s h chunk output limit ≡ losses_by s chunk output limit (rows_of s h)
losses_are s h chunk output None = refl
losses_are s h chunk output (Some limit) = refl

-- histories with the same rows
pub losses_same : (s : AllSettings) (h g : History) → rows_of s g ≡ rows_of s h → (chunk output : ℕ) (limit : Option ℕ) → evictions_to s g chunk output limit ≡ evictions_to s h chunk output limit
losses_same s h g same chunk output limit = losses_are s g chunk output limit ∙ ap (losses_by s chunk output limit) same ∙ sym (losses_are s h chunk output limit)

pub idle_same : (s : AllSettings) (h g : History) → rows_of s g ≡ rows_of s h → (r : Route) → is_idle s g r ≡ is_idle s h r
idle_same s h g same r = ap (is_route_idle (chunk_id r.chunk) (output_id r.output)) same

owes_still : (s : AllSettings) (h : History) (r : Route) (chunk other : ℕ) → NumbersRise 0 (next h) (chunks_of h) → (r.output == other) ≡ false → is_idle s h (route chunk other) ≡ true → owes s (OnRoute r Evicted ∷ h) chunk ≡ true
owes_still s h r chunk other rise apart is =
    sym (has_owes s (OnRoute r Evicted ∷ h) chunk rise) ∙ idle_has s (OnRoute r Evicted ∷ h) (route chunk other) (idle_still s h r chunk other apart is)

same_to : (s : AllSettings) (h : History) (r : Route) (chunk other : ℕ) (limit : Option ℕ) → NumbersRise 0 (next h) (chunks_of h) → (r.output == other) ≡ false → is_idle s h (route chunk other) ≡ true
    → evictions_to s (OnRoute r Evicted ∷ h) chunk other limit ≡ evictions_to s h chunk other limit
same_to s h r chunk other None rise apart is = refl
same_to s h r chunk other (Some limit) rise apart is = ap (map (λ (lost : ChunkId). route lost.0 other)) (lost_same s r h other apart limit chunk rise (owes_still s h r chunk other rise apart is))

-- after the eviction of a route, and the calls for it
elsewhere_lost : (s : AllSettings) (h g : History) (r : Route) (chunk : ℕ) → NumbersRise 0 (next h) (chunks_of h) → Later s (OnRoute r Evicted ∷ h) g → Elsewhere s r.output chunk h g
elsewhere_lost s h g r chunk rise later = record {
  chunks = later.chunks;
  number = later.number;
  idle = λ other apart idle. idle_same s (OnRoute r Evicted ∷ h) g later.rows (route chunk other) ∙ idle_still s h r chunk other apart idle;
  lost = λ other limit apart idle. losses_same s (OnRoute r Evicted ∷ h) g later.rows chunk other limit ∙ same_to s h r chunk other limit rise apart idle;
}

elsewhere_on : (s : AllSettings) (output chunk : ℕ) (h g k : History) → Elsewhere s output chunk h g → Elsewhere s output chunk g k → Elsewhere s output chunk h k
elsewhere_on s output chunk h g k first second = record {
  chunks = second.chunks ∙ first.chunks;
  number = second.number ∙ first.number;
  idle = λ other apart idle. second.idle other apart (first.idle other apart idle);
  lost = λ other limit apart idle. second.lost other limit apart (first.idle other apart idle) ∙ first.lost other limit apart idle;
}

rise_on : (h g : History) → chunks_of g ≡ chunks_of h → next g ≡ next h → NumbersRise 0 (next h) (chunks_of h) → NumbersRise 0 (next g) (chunks_of g)
rise_on h g chunks number rise = rw (chunks, number) rise

-- all evictions of an output
loses_elsewhere : (s : AllSettings) (output chunk : ℕ) (lost : List ChunkId) (h : History) → NumbersRise 0 (next h) (chunks_of h)
    → Ends (Elsewhere s output chunk h) (loses s (map (λ (c : ChunkId). route c.0 output) lost) h)
loses_elsewhere s output chunk [] h rise = record { chunks = refl; number = refl; idle = λ other apart idle. idle; lost = λ other limit apart idle. refl }
loses_elsewhere s output chunk (c ∷ cs) h rise =
    let r : Route = route c.0 output in
    let rest : List Route = map (λ (c : ChunkId). route c.0 output) cs in
    λ _. ends_bind (Elsewhere s output chunk h) (marks_or_removes s r (OnRoute r Evicted ∷ h)) (loses s rest)
    (ends_more (Later s (OnRoute r Evicted ∷ h)) (λ g. Ends (Elsewhere s output chunk h) (loses s rest g)) (marks_or_removes s r (OnRoute r Evicted ∷ h))
    (λ g later.
    let first = elsewhere_lost s h g r chunk rise later in
    ends_more (Elsewhere s output chunk g) (Elsewhere s output chunk h) (loses s rest g) (λ k second. elsewhere_on s output chunk h g k first second)
    (loses_elsewhere s output chunk cs g (rise_on h g first.chunks first.number rise)))
    (settles_later s r (OnRoute r Evicted ∷ h)))

pub limit_elsewhere : (s : AllSettings) (output chunk : ℕ) (limit : Option ℕ) (h : History) → NumbersRise 0 (next h) (chunks_of h) → Ends (Elsewhere s output chunk h) (loses s (evictions_to s h chunk output limit) h)
limit_elsewhere s output chunk None h rise = loses_elsewhere s output chunk [] h rise
limit_elsewhere s output chunk (Some limit) h rise = loses_elsewhere s output chunk (evicted_for (output_id output) limit (chunk_id chunk) (rows_of s h)) h rise

-- the other routes stay idle, and their evictions are left
pub each_still : (s : AllSettings) (output chunk : ℕ) (h g : History) (others : List ℕ) → Elsewhere s output chunk h g → IsNotAmong output others → IsIdleToEach s h chunk others → IsIdleToEach s g chunk others
each_still s output chunk h g [] same apart waits = tt
each_still s output chunk h g (other ∷ others) same apart waits = (same.idle other apart.0 waits.0, waits.1, each_still s output chunk h g others same apart.1 waits.2)

pub left_still : (s : AllSettings) (output chunk : ℕ) (h g : History) (others : List ℕ) → Elsewhere s output chunk h g → IsNotAmong output others → IsIdleToEach s h chunk others
    → evictions_left s h chunk others ≡ evictions_left s g chunk others
left_still s output chunk h g [] same apart waits = refl
left_still s output chunk h g (other ∷ others) same apart waits =
    let first = same.lost other (total_limit_at s other) apart.0 waits.0 in
    let rest = left_still s output chunk h g others same apart.1 waits.2 in
    λ i. sym first i ++ rest i
