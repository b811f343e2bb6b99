-- Evictions in the history, one at a time.
use Rattle.std.proofs.Common.{◌≡◌, ◌≢◌, ℕ, suc, ◌+◌, ◌-◌, ◌<◌, ◌≤◌, Bool, true, false, ◌&&◌, not, inl, inr, List, [], ◌∷◌, length, Option, Some, None, map, refl, sym, ◌∙◌, ap, subst, arith}
use Rattle.std.specs.Prelude.{if◌then◌else◌, ◌==◌, filter, nat_lt, nat_le, All}
use Rattle.std.specs.List.{list_any}
use Rattle.std.proofs.lemmas.Bool.{cases_Bool, cases_eq, ne_eqb, eq-eqb}
use Rattle.std.proofs.lemmas.List.{length-map}
use Rattle.std.proofs.lemmas.List.Kept.{AllPairs-cons}
use Rattle.std.proofs.lemmas.List.Elements.{All-cons, All-nil}
use Rattle.fwd_base.specs.declared.ids.ChunkId.{ChunkId}
use Rattle.fwd_base.specs.declared.ids.OutputId.{OutputId}
use Rattle.fwd_settings.specs.declared.settings_types.AllSettings.{AllSettings}
use Rattle.fwd_table.specs.Route.{Route as Owed}
use Rattle.fwd_table.specs.Row.{Row}
use Rattle.fwd_table.specs.RowChange.TheVariants.{Resolves}
use Rattle.fwd_table.specs.Routes.{is_to, flying_of}
use Rattle.fwd_table.specs.Rows.{ChunksRise, is_row_of, on_chunk, resolved_to, owed_rows, is_owed_row}
use Rattle.fwd_table.proofs.Chunks.{rise-on_chunk}
use Rattle.fwd_limits.specs.declared.eviction.Loss.{Loss}
use Rattle.fwd_limits.specs.declared.eviction.Loss.TheVariants.{Fits, Lose, NewLoses}
use Rattle.fwd_table.specs.Usage.{in_file, is_flying, is_waiting, size_of}
use Rattle.fwd_limits.specs.Evictions.{other_waiting, fixed, evicted_among, evicted_for, first_chunk, loss_of, next_eviction, evicted_after, evicted_by_calls}
use Rattle.fwd_limits.proofs.Evictions.{asked_is}
use Rattle.fwd_model.specs.Fact.{History, OnRoute, Evicted}
use Rattle.fwd_model.specs.Chunks.{ChunkInfo, chunks_of, next}
use Rattle.fwd_model.specs.Routes.{route, owed, is_owed, table_route, row_of, rows_of}
use Rattle.fwd_engine_state.specs.StateRepresents.{NumbersRise}
use Rattle.fwd_engine_state.proofs.RowsAddedAndRemoved.{rows_ended}

-- ---- rows of a history

above_all : (s : AllSettings) (h : History) (n least past : ℕ) (cs : List ChunkInfo) → n < least → NumbersRise least past cs → All (λ (row : Row). n < row.chunk.0) (map (row_of s h) (filter (is_owed s h) cs))
above_all s h n least past [] below rise = All-nil (λ (row : Row). n < row.chunk.0)
above_all s h n least past (c ∷ cs) below rise =
    let first : least ≤ c.number = rise.0 in
    let rest = above_all s h n (c.number + 1) past cs (omega (arith, below, first)) rise.2 in
    elim (cases_Bool (is_owed s h c)) [
      | inl is ↦ rw is (All-cons (λ (row : Row). n < row.chunk.0) (row_of s h c) _ (omega (arith, below, first)) rest)
      | inr isnt ↦ rw isnt rest
    ]

rows_rise_in : (s : AllSettings) (h : History) (least past : ℕ) (cs : List ChunkInfo) → NumbersRise least past cs → ChunksRise (map (row_of s h) (filter (is_owed s h) cs))
rows_rise_in s h least past [] rise = λ i j d less within. absurd (omega (arith, within))
rows_rise_in s h least past (c ∷ cs) rise =
    let rest = rows_rise_in s h (c.number + 1) past cs rise.2 in
    elim (cases_Bool (is_owed s h c)) [
      | inl is ↦ rw is (AllPairs-cons (λ (row behind : Row). row.chunk.0 < behind.chunk.0) (row_of s h c) _ (above_all s h c.number (c.number + 1) past cs (omega arith) rise.2) rest)
      | inr isnt ↦ rw isnt rest
    ]

pub rows_rise : (s : AllSettings) (h : History) → NumbersRise 0 (next h) (chunks_of h) → ChunksRise (rows_of s h)
rows_rise s h rise = rows_rise_in s h 0 (next h) (chunks_of h) rise

-- each row is pending for an output
abbrev Owing : List Row → Type 0
Owing [] = Unit {0}
Owing (row ∷ rows) = (is_owed_row row ≡ true) × Owing rows

owing_in : (s : AllSettings) (h : History) (cs : List ChunkInfo) → Owing (map (row_of s h) (filter (is_owed s h) cs))
owing_in s h [] = tt
owing_in s h (c ∷ cs) =
    let long : length (map (table_route s h c.number) (owed s h c)) ≡ length (owed s h c) = length-map (owed s h c) (table_route s h c.number) in
    elim (cases_Bool (is_owed s h c)) [
      | inl is ↦ rw is (ap (λ (n : ℕ). not (n == 0)) long ∙ is, owing_in s h cs)
      | inr isnt ↦ rw isnt (owing_in s h cs)
    ]

-- ---- rows without pending outputs count as nothing

owed_where : (p : Row → Bool) → ((row : Row) → p row ≡ true → is_owed_row row ≡ true) → (rows : List Row) → filter p (owed_rows rows) ≡ filter p rows
owed_where p each [] = refl
owed_where p each (row ∷ rows) = elim (cases_Bool (is_owed_row row)) [
  | inl is ↦ elim (cases_Bool (p row)) [
    | inl has ↦ rw (is, has) (ap (λ (l : List Row). row ∷ l) (owed_where p each rows))
    | inr hasnt ↦ rw (is, hasnt) (owed_where p each rows)
  ]
  | inr isnt ↦ elim (cases_Bool (p row)) [
    | inl has ↦ absurd (cc (sym isnt ∙ each row has))
    | inr hasnt ↦ rw (isnt, hasnt) (owed_where p each rows)
  ]
]

both_true : (a b : Bool) → (a && b) ≡ true → (a ≡ true) × (b ≡ true)
both_true true b is = (refl, is)
both_true false b is = absurd (cc is)

some_routes : (output : OutputId) (routes : List Owed) → list_any (is_to output) routes ≡ true → not (length routes == 0) ≡ true
some_routes output [] any = absurd (cc any)
some_routes output (x ∷ xs) any = let more : (length (x ∷ xs) == 0) ≡ false = ne_eqb (length (x ∷ xs)) 0 (λ e. absurd (omega (arith, e))) in rw more refl

flying_any : (output : OutputId) (routes : List Owed) → list_any (is_to output) (flying_of routes) ≡ true → list_any (is_to output) routes ≡ true
flying_any output [] any = any
flying_any output (x ∷ xs) any = elim (cases_Bool (is_to output x)) [
  | inl is ↦ rw is refl
  | inr isnt ↦ elim (cases_Bool x.flying) [
    | inl flies ↦ rw isnt (flying_any output xs (rw (flies, isnt) at any))
    | inr still ↦ rw isnt (flying_any output xs (rw still at any))
  ]
]

pub flying_owed : (output : OutputId) (row : Row) → (in_file row && is_flying output row) ≡ true → is_owed_row row ≡ true
flying_owed output row is = some_routes output row.routes (flying_any output row.routes (both_true (in_file row) (is_flying output row) is).1)

pub waiting_parts : (output : OutputId) (chunk : ChunkId) (row : Row) → (in_file row && (is_waiting output row && not (is_row_of chunk row))) ≡ true → (list_any (is_to output) row.routes ≡ true) × (not (is_row_of chunk row) ≡ true)
waiting_parts output chunk row is =
    let one = both_true (in_file row) (is_waiting output row && not (is_row_of chunk row)) is in
    let two = both_true (is_waiting output row) (not (is_row_of chunk row)) one.1 in
    let three = both_true row.shut (list_any (is_to output) row.routes && not (is_flying output row)) two.0 in
    ((both_true (list_any (is_to output) row.routes) (not (is_flying output row)) three.1).0, two.1)

pub waiting_owed : (output : OutputId) (chunk : ChunkId) (row : Row) → (in_file row && (is_waiting output row && not (is_row_of chunk row))) ≡ true → is_owed_row row ≡ true
waiting_owed output chunk row is = some_routes output row.routes (waiting_parts output chunk row is).0

-- the row of another chunk than the changed one
own_same : (chunk first : ChunkId) (f : Row → Row) → (chunk.0 ≢ first.0) → ((row : Row) → (f row).chunk.0 ≡ row.chunk.0) → (rows : List Row) → Owing rows → filter (is_row_of chunk) (owed_rows (on_chunk first f rows)) ≡ filter (is_row_of chunk) (on_chunk first f rows)
own_same chunk first f apart same [] owing = refl
own_same chunk first f apart same (row ∷ rows) owing = elim (cases_eq row.chunk.0 first.0) [
  | inl is ↦
      let here : is_row_of first row ≡ true = eq-eqb row.chunk.0 first.0 is in
      let other : is_row_of chunk (f row) ≡ false = ne_eqb (f row).chunk.0 chunk.0 (λ e. apart (sym e ∙ same row ∙ is)) in
      elim (cases_Bool (is_owed_row (f row))) [
        | inl owed ↦ rw (here, owed, other) (own_same chunk first f apart same rows owing.1)
        | inr none ↦ rw (here, none, other) (own_same chunk first f apart same rows owing.1)
      ]
  | inr isnt ↦
      let here : is_row_of first row ≡ false = ne_eqb row.chunk.0 first.0 isnt in
      elim (cases_Bool (is_row_of chunk row)) [
        | inl own ↦ rw (here, owing.0, own) (ap (λ (l : List Row). row ∷ l) (own_same chunk first f apart same rows owing.1))
        | inr other ↦ rw (here, owing.0, other) (own_same chunk first f apart same rows owing.1)
      ]
]

lost_as : (limit : ℕ) (chunk : ChunkId) (fixed_bytes : ℕ) (others : List Row) → List ChunkId
lost_as limit chunk fixed_bytes others = if nat_lt limit fixed_bytes then chunk ∷ [] else map (λ row. row.chunk) (evicted_among (limit - fixed_bytes) others)

pub lost_owed : (output : OutputId) (limit : ℕ) (chunk first : ChunkId) (rows : List Row) → (chunk.0 ≢ first.0) → Owing rows
    → evicted_for output limit chunk (owed_rows (on_chunk first (resolved_to output) rows)) ≡ evicted_for output limit chunk (on_chunk first (resolved_to output) rows)
unfolding lost_as
lost_owed output limit chunk first rows apart owing =
    let left = on_chunk first (resolved_to output) rows in
    let flying = owed_where (λ row. in_file row && is_flying output row) (flying_owed output) left in
    let own = own_same chunk first (resolved_to output) apart (λ row. refl) rows owing in
    let others = owed_where (λ row. in_file row && (is_waiting output row && not (is_row_of chunk row))) (waiting_owed output chunk) left in
    λ i. lost_as limit chunk (size_of (flying i) + size_of (own i)) (others i)

-- ---- one eviction at a time

abbrev NotOf : ChunkId → List Row → Type 0
NotOf chunk [] = Unit {0}
NotOf chunk (row ∷ rows) = (chunk.0 ≢ row.chunk.0) × NotOf chunk rows

others_apart : (output : OutputId) (chunk : ChunkId) (rows : List Row) → NotOf chunk (other_waiting output chunk rows)
others_apart output chunk [] = tt
others_apart output chunk (row ∷ rows) = elim (cases_Bool (in_file row && (is_waiting output row && not (is_row_of chunk row)))) [
  | inl is ↦ rw is ((λ e. let self : is_row_of chunk row ≡ true = eq-eqb row.chunk.0 chunk.0 (sym e) in absurd (cc (rw self at ((waiting_parts output chunk row is).1)))), others_apart output chunk rows)
  | inr isnt ↦ rw isnt (others_apart output chunk rows)
]

first_apart : (chunk first : ChunkId) (room : ℕ) (rows : List Row) → NotOf chunk rows → first_chunk (evicted_among room rows) ≡ Some first → chunk.0 ≢ first.0
first_apart chunk first room [] apart is = absurd (cc is)
first_apart chunk first room (row ∷ rows) apart is = elim (cases_Bool (nat_le (size_of (row ∷ rows)) room)) [
  | inl fits ↦ absurd (cc (rw fits at is))
  | inr over ↦ let same : row.chunk ≡ first = let e : Some row.chunk ≡ Some first = rw over at is in cc e in subst (λ (c : ChunkId). chunk.0 ≢ c.0) same apart.0
]

pub by_loss : (o : Option ChunkId) (first : ChunkId) → loss_of o ≡ Lose first → o ≡ Some first
by_loss None first is = absurd (cc is)
by_loss (Some c) first is = ap (λ (x : ChunkId). Some x) (let same : c ≡ first = cc is in same)

pub lose_apart : (output : OutputId) (limit : ℕ) (chunk first : ChunkId) (rows : List Row) → next_eviction output limit chunk rows ≡ Lose first → chunk.0 ≢ first.0
lose_apart output limit chunk first rows is = elim (cases_Bool (nat_lt limit (fixed output chunk rows))) [
  | inl over ↦ absurd (cc (rw over at is))
  | inr within ↦ first_apart chunk first (limit - fixed output chunk rows) (other_waiting output chunk rows) (others_apart output chunk rows) (by_loss _ first (rw within at is))
]

-- an eviction, and the evictions after it
asks : (output : OutputId) (limit : ℕ) (chunk : ChunkId) (rows : List Row) (loss : Loss) → ChunksRise rows → next_eviction output limit chunk rows ≡ loss
    → evicted_for output limit chunk rows ≡ evicted_after (evicted_by_calls (length rows + 1) output limit chunk) output chunk rows loss
asks output limit chunk rows loss rise is =
    sym (asked_is (suc (length rows + 1)) output limit chunk rows rise (omega arith)) ∙ ap (evicted_after (evicted_by_calls (length rows + 1) output limit chunk) output chunk rows) is

pub asks_lose : (output : OutputId) (limit : ℕ) (chunk first : ChunkId) (rows : List Row) → ChunksRise rows → next_eviction output limit chunk rows ≡ Lose first
    → evicted_for output limit chunk rows ≡ first ∷ evicted_for output limit chunk (on_chunk first (resolved_to output) rows)
asks_lose output limit chunk first rows rise is =
    let long : length (on_chunk first (resolved_to output) rows) ≡ length rows = length-map rows _ in
    asks output limit chunk rows (Lose first) rise is
    ∙ ap (λ (l : List ChunkId). first ∷ l) (asked_is (length rows + 1) output limit chunk (on_chunk first (resolved_to output) rows) (rise-on_chunk first (Resolves output) rows rise) (omega (arith, long)))

pub lose_next : (s : AllSettings) (h : History) (output : OutputId) (limit : ℕ) (chunk first : ChunkId) → NumbersRise 0 (next h) (chunks_of h) → next_eviction output limit chunk (rows_of s h) ≡ Lose first
    → evicted_for output limit chunk (rows_of s h) ≡ first ∷ evicted_for output limit chunk (rows_of s (OnRoute (route first.0 output.0) Evicted ∷ h))
lose_next s h output limit chunk first rise is =
    asks_lose output limit chunk first (rows_of s h) (rows_rise s h rise) is
    ∙ ap (λ (l : List ChunkId). first ∷ l)
    (sym (lost_owed output limit chunk first (rows_of s h) (lose_apart output limit chunk first (rows_of s h) is) (owing_in s h (chunks_of h)))
    ∙ ap (evicted_for output limit chunk) (rows_ended s (route first.0 output.0) Evicted h refl))

pub fits_next : (s : AllSettings) (h : History) (output : OutputId) (limit : ℕ) (chunk : ChunkId) → NumbersRise 0 (next h) (chunks_of h) → next_eviction output limit chunk (rows_of s h) ≡ Fits → evicted_for output limit chunk (rows_of s h) ≡ []
fits_next s h output limit chunk rise is = asks output limit chunk (rows_of s h) Fits (rows_rise s h rise) is

pub new_next : (s : AllSettings) (h : History) (output : OutputId) (limit : ℕ) (chunk : ChunkId) → NumbersRise 0 (next h) (chunks_of h) → next_eviction output limit chunk (rows_of s h) ≡ NewLoses → evicted_for output limit chunk (rows_of s h) ≡ chunk ∷ []
new_next s h output limit chunk rise is = asks output limit chunk (rows_of s h) NewLoses (rows_rise s h rise) is
