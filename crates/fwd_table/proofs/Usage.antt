-- Totals over rows agree with the definitions of limits and flushes.
use Rattle.std.proofs.Common.{◌≡◌, inl, inr, ℕ, ◌+◌, ◌<◌, ◌≤◌, Bool, true, false, not, cond, List, [], ◌∷◌, length, refl, sym, ◌∙◌, ap, arith}
use Rattle.std.specs.Prelude.{◌==◌, ◌&&◌, All, filter, find, sum_by, ◌||◌, if◌then◌else◌, Option, Some, None}
use Rattle.std.specs.List.{list_any}
use Rattle.std.specs.Option.{option_map_or}
use Rattle.std.proofs.lemmas.Bool.{cases_Bool, cases_eq, cases_lt, eq-eqb, ne_eqb}
use Rattle.std.proofs.lemmas.List.Elements.{All-head, All-tail}
use Rattle.std.proofs.lemmas.List.Sums.{sum_by-cons}
use Rattle.fwd_base.specs.declared.ids.ChunkId.{ChunkId}
use Rattle.fwd_base.specs.declared.ids.OutputId.{OutputId}
use Rattle.fwd_table_rows.specs.declared.route.Route.{Route}
use Rattle.fwd_table_rows.specs.declared.row.Row.{Row}
use Rattle.fwd_table_rows.specs.declared.sums.ByOutput.{ByOutput}
use Rattle.fwd_table_rows.specs.declared.sums.ByOutput.TheVariants.{Flights, FlyingBytes, WaitingBytes}
use Rattle.fwd_table_rows.specs.declared.sums.Sums.{Sums}
use Rattle.fwd_table_rows.specs.Routes.{RiseFrom, flying_of, is_to}
use Rattle.fwd_table_rows.specs.Rows.{ChunksRise, IsOwedToNobody, flies_to, flights_to, is_owed_row, owed_rows, without_chunk}
use Rattle.fwd_table_rows.specs.Usage.{in_file, is_from, is_recovered_row, flies, is_flying, is_waiting, size_of, flying_to, waiting_for, files_up, found_up, memory_of}
use Rattle.fwd_table_rows.specs.Sums.{Over, Memory, FilesUp, FoundUp, Unowed, Rows, route_part, part_at, part, total, AreSums, IsTotal, IsValidRow}
use Rattle.fwd_table_rows.proofs.ChunkRows.{behind_rise, none_goes, others_behind}
use Rattle.fwd_table_rows.proofs.RowSums.{none_behind}

-- ---- the route to an output is the only one

module _ (output : OutputId) where
  found_sum : (what : ByOutput) (n : ℕ) (row : Row) (routes : List Route) → RiseFrom n routes → sum_by (part_at what output.0 row) routes ≡ option_map_or (route_part what row) (find (is_to output) routes) 0
  found_sum what n row [] rise = refl
  found_sum what n row (r ∷ routes) rise = elim (cases_eq r.output.0 output.0) [
    | inl same ↦
        let both = sum_by-cons (part_at what output.0 row) r routes in
        let rest = none_behind what output.0 (r.output.0 + 1) row routes (omega (arith, same)) rise.2 in
        let first : part_at what output.0 row r ≡ route_part what row r = rw (eq-eqb r.output.0 output.0 same) refl in
        let found : option_map_or (route_part what row) (find (is_to output) (r ∷ routes)) 0 ≡ route_part what row r = rw (eq-eqb r.output.0 output.0 same) refl in
        omega (arith, both, rest, first, found)
    | inr apart ↦
        let both = sum_by-cons (part_at what output.0 row) r routes in
        let rest = found_sum what (r.output.0 + 1) row routes rise.2 in
        let first : part_at what output.0 row r ≡ 0 = rw (ne_eqb r.output.0 output.0 apart) refl in
        let found : option_map_or (route_part what row) (find (is_to output) (r ∷ routes)) 0 ≡ option_map_or (route_part what row) (find (is_to output) routes) 0 = rw (ne_eqb r.output.0 output.0 apart) refl in
        omega (arith, both, rest, first, found)
  ]

  none_flies_behind : (n : ℕ) (routes : List Route) → output.0 < n → RiseFrom n routes → list_any (is_to output) (flying_of routes) ≡ false
  none_flies_behind n [] before rise = refl
  none_flies_behind n (r ∷ routes) before rise =
      let first : n ≤ r.output.0 = rise.0 in
      let apart : (r.output.0 ≡ output.0 → ⊥) = λ same. omega (arith, before, first, same) in
      let rest = none_flies_behind (r.output.0 + 1) routes (omega (arith, before, first)) rise.2 in
      elim (cases_Bool r.flying) [ inl flies ↦ rw (flies, ne_eqb r.output.0 output.0 apart) rest | inr idle ↦ rw idle rest ]

  found_flying : (n : ℕ) (routes : List Route) → RiseFrom n routes → list_any (is_to output) (flying_of routes) ≡ option_map_or (λ r. r.flying) (find (is_to output) routes) false
  found_flying n [] rise = refl
  found_flying n (r ∷ routes) rise = elim (cases_eq r.output.0 output.0) [
    | inl same ↦ elim (cases_Bool r.flying) [
      | inl flies ↦ rw (flies, eq-eqb r.output.0 output.0 same) refl
      | inr idle ↦ rw (idle, eq-eqb r.output.0 output.0 same) (none_flies_behind (r.output.0 + 1) routes (omega (arith, same)) rise.2)
    ]
    | inr apart ↦
        let rest = found_flying (r.output.0 + 1) routes rise.2 in
        elim (cases_Bool r.flying) [ inl flies ↦ rw (flies, ne_eqb r.output.0 output.0 apart) rest | inr idle ↦ rw (idle, ne_eqb r.output.0 output.0 apart) rest ]
  ]

  found_any : (routes : List Route) → list_any (is_to output) routes ≡ option_map_or (λ r. true) (find (is_to output) routes) false
  found_any [] = refl
  found_any (r ∷ routes) = elim (cases_Bool (is_to output r)) [ inl own ↦ rw own refl | inr other ↦ rw other (found_any routes) ]

  -- ---- the part of a row

  flights_by : (row : Row) (found : Option Route) → option_map_or (route_part Flights row) found 0 ≡ (if option_map_or (λ r. r.flying) found false then 1 else 0)
  flights_by row None = refl
  flights_by row (Some r) = refl

  sized : (a b : Bool) (n : ℕ) → (if a then (if b then n else 0) else 0) ≡ (if b && a then n else 0)
  sized true true n = refl
  sized true false n = refl
  sized false true n = refl
  sized false false n = refl

  flying_by : (row : Row) (found : Option Route) → option_map_or (route_part FlyingBytes row) found 0 ≡ (if in_file row && option_map_or (λ r. r.flying) found false then row.size else 0)
  flying_by row None = sized false (in_file row) row.size
  flying_by row (Some r) = sized r.flying (in_file row) row.size

  waiting_by : (row : Row) (found : Option Route)
      → option_map_or (route_part WaitingBytes row) found 0 ≡ (if in_file row && (row.shut && (option_map_or (λ r. true) found false && not (option_map_or (λ r. r.flying) found false))) then row.size else 0)
  waiting_by row None = elim (cases_Bool row.shut) [ inl shut ↦ rw shut (sized false (in_file row) row.size) | inr opened ↦ rw opened (sized false (in_file row) row.size) ]
  waiting_by row (Some r) = sized (row.shut && not r.flying) (in_file row) row.size

  flights_row : (row : Row) → IsValidRow row → part (Over Flights) output.0 row ≡ (if flies_to output row then 1 else 0)
  flights_row row sound = found_sum Flights 0 row row.routes sound.rise ∙ flights_by row (find (is_to output) row.routes)

  flying_row : (row : Row) → IsValidRow row → part (Over FlyingBytes) output.0 row ≡ (if in_file row && is_flying output row then row.size else 0)
  flying_row row sound =
      found_sum FlyingBytes 0 row row.routes sound.rise ∙ flying_by row (find (is_to output) row.routes)
      ∙ ap (λ (b : Bool). if in_file row && b then row.size else 0) (sym (found_flying 0 row.routes sound.rise))

  waiting_row : (row : Row) → IsValidRow row → part (Over WaitingBytes) output.0 row ≡ (if in_file row && is_waiting output row then row.size else 0)
  waiting_row row sound =
      found_sum WaitingBytes 0 row row.routes sound.rise ∙ waiting_by row (find (is_to output) row.routes)
      ∙ ap (λ (b : Bool). if in_file row && (row.shut && (option_map_or (λ (r : Route). true) (find (is_to output) row.routes) false && not b)) then row.size else 0) (sym (found_flying 0 row.routes sound.rise))
      ∙ ap (λ (b : Bool). if in_file row && (row.shut && (b && not (is_flying output row))) then row.size else 0) (sym (found_any row.routes))

memory_row : (input : ℕ) (row : Row) → part Memory input row ≡ (if not (in_file row) && (is_from input row.input && (not row.shut || not (length row.routes == 0))) then row.size else 0)
memory_row input row = by (is_from input row.input) (not (in_file row)) (not row.shut || not (length row.routes == 0)) row.size
  where
    by : (a b c : Bool) (n : ℕ) → (if a then (if b && c then n else 0) else 0) ≡ (if b && (a && c) then n else 0)
    by true true true n = refl
    by true true false n = refl
    by true false true n = refl
    by true false false n = refl
    by false true true n = refl
    by false true false n = refl
    by false false true n = refl
    by false false false n = refl

-- ---- sums of all rows

sizes : (f : Row → ℕ) (p : Row → Bool) (rows : List Row) → ((row : Row) → IsValidRow row → f row ≡ (if p row then row.size else 0)) → All IsValidRow rows → sum_by f rows ≡ size_of (filter p rows)
sizes f p [] adds sound = refl
sizes f p (row ∷ rows) adds sound =
    let both = sum_by-cons f row rows in
    let rest = sizes f p rows adds (All-tail IsValidRow row rows sound) in
    let own = adds row (All-head IsValidRow row rows sound) in
    elim (cases_Bool (p row)) [
      | inl passes ↦
          let one : f row ≡ row.size = rw passes at own in
          rw passes (let kept = sum_by-cons (λ (r : Row). r.size) row (filter p rows) in omega (arith, both, rest, one, kept))
      | inr fails ↦
          let none : f row ≡ 0 = rw fails at own in
          rw fails (omega (arith, both, rest, none))
    ]

counts : (f : Row → ℕ) (p : Row → Bool) (rows : List Row) → ((row : Row) → IsValidRow row → f row ≡ (if p row then 1 else 0)) → All IsValidRow rows → sum_by f rows ≡ length (filter p rows)
counts f p [] adds sound = refl
counts f p (row ∷ rows) adds sound =
    let both = sum_by-cons f row rows in
    let rest = counts f p rows adds (All-tail IsValidRow row rows sound) in
    let own = adds row (All-head IsValidRow row rows sound) in
    elim (cases_Bool (p row)) [
      | inl passes ↦
          let one : f row ≡ 1 = rw passes at own in
          rw passes (omega (arith, both, rest, one))
      | inr fails ↦
          let none : f row ≡ 0 = rw fails at own in
          rw fails (omega (arith, both, rest, none))
    ]

-- no route is to an output past the last one
far_routes : (what : ByOutput) (key n : ℕ) (row : Row) (routes : List Route) → 64 ≤ key → RiseFrom n routes → sum_by (part_at what key row) routes ≡ 0
far_routes what key n row [] far rise = refl
far_routes what key n row (r ∷ routes) far rise =
    let near : r.output.0 < 64 = rise.1 in
    rw (ne_eqb r.output.0 key (λ same. omega (arith, far, near, same))) (far_routes what key (r.output.0 + 1) row routes far rise.2)

far_rows : (what : ByOutput) (key : ℕ) (rows : List Row) → 64 ≤ key → All IsValidRow rows → sum_by (part (Over what) key) rows ≡ 0
far_rows what key [] far sound = refl
far_rows what key (row ∷ rows) far sound =
    let both = sum_by-cons (part (Over what) key) row rows in
    let own = far_routes what key 0 row row.routes far (All-head IsValidRow row rows sound).rise in
    let rest = far_rows what key rows far (All-tail IsValidRow row rows sound) in
    omega (arith, both, own, rest)

total_of : (what : ByOutput) (key : ℕ) (sums : Sums) (rows : List Row) (sum : ℕ) → IsTotal (Over what) key sums sum → AreSums sums rows → All IsValidRow rows → sum ≡ sum_by (part (Over what) key) rows
total_of what key sums rows sum is are sound = elim (cases_lt key 64) [
  | inl near ↦ is.0 near ∙ are (Over what) key near
  | inr far ↦ is.1 far ∙ sym (far_rows what key rows far sound)
]

pub flights_are : (output : OutputId) (sums : Sums) (rows : List Row) (sum : ℕ) → IsTotal (Over Flights) output.0 sums sum → AreSums sums rows → All IsValidRow rows → sum ≡ flights_to output rows
flights_are output sums rows sum is are sound = total_of Flights output.0 sums rows sum is are sound ∙ counts (part (Over Flights) output.0) (flies_to output) rows (flights_row output) sound

pub flying_are : (output : OutputId) (sums : Sums) (rows : List Row) (sum : ℕ) → IsTotal (Over FlyingBytes) output.0 sums sum → AreSums sums rows → All IsValidRow rows → sum ≡ size_of (flying_to output rows)
flying_are output sums rows sum is are sound = total_of FlyingBytes output.0 sums rows sum is are sound ∙ sizes (part (Over FlyingBytes) output.0) (λ (row : Row). in_file row && is_flying output row) rows (flying_row output) sound

pub waiting_are : (output : OutputId) (sums : Sums) (rows : List Row) (sum : ℕ) → IsTotal (Over WaitingBytes) output.0 sums sum → AreSums sums rows → All IsValidRow rows → sum ≡ size_of (waiting_for output rows)
waiting_are output sums rows sum is are sound = total_of WaitingBytes output.0 sums rows sum is are sound ∙ sizes (part (Over WaitingBytes) output.0) (λ (row : Row). in_file row && is_waiting output row) rows (waiting_row output) sound

pub memory_is : (input : ℕ) (sums : Sums) (rows : List Row) → input < 64 → AreSums sums rows → All IsValidRow rows → total Memory input sums ≡ memory_of input rows
memory_is input sums rows near are sound =
    are Memory input near
    ∙ sizes (part Memory input) (λ (row : Row). not (in_file row) && (is_from input row.input && (not row.shut || not (length row.routes == 0)))) rows (λ row one. memory_row input row) sound

pub files_are : (sums : Sums) (rows : List Row) → AreSums sums rows → All IsValidRow rows → total FilesUp 0 sums ≡ files_up rows
files_are sums rows are sound = are FilesUp 0 (omega arith) ∙ counts (part FilesUp 0) (λ (row : Row). in_file row && flies row) rows (λ row one. refl) sound

pub found_are : (sums : Sums) (rows : List Row) → AreSums sums rows → All IsValidRow rows → total FoundUp 0 sums ≡ found_up rows
found_are sums rows are sound = are FoundUp 0 (omega arith) ∙ sizes (part FoundUp 0) (λ (row : Row). is_recovered_row row && flies row) rows (λ row one. refl) sound

pub rows_are : (sums : Sums) (rows : List Row) → AreSums sums rows → total Rows 0 sums ≡ length rows
rows_are sums rows are = are Rows 0 (omega arith) ∙ ones rows
  where
    ones : (rows : List Row) → sum_by (part Rows 0) rows ≡ length rows
    ones [] = refl
    ones (row ∷ rows) =
        let both = sum_by-cons (part Rows 0) row rows in
        let rest = ones rows in
        omega (arith, both, rest)

-- ---- rows that are pending for no output

pub none_unowed : (rows : List Row) → sum_by (part Unowed 0) rows ≡ 0 → owed_rows rows ≡ rows
none_unowed [] none = refl
none_unowed (row ∷ rows) none =
    let both = sum_by-cons (part Unowed 0) row rows in
    elim (cases_Bool (is_owed_row row)) [
      | inl owed ↦ rw owed (ap (λ (l : List Row). row ∷ l) (none_unowed rows (omega (arith, both, none))))
      | inr idle ↦
          let one : part Unowed 0 row ≡ 1 = rw idle refl in
          absurd (omega (arith, both, none, one))
    ]

-- the row of a chunk without routes, and all other rows without routes
pub owed_without : (chunk : ChunkId) (rows : List Row) → ChunksRise rows → IsOwedToNobody chunk rows → owed_rows (without_chunk chunk rows) ≡ owed_rows rows
owed_without chunk [] rise idle = refl
owed_without chunk (row ∷ rows) rise idle = elim (cases_eq row.chunk.0 chunk.0) [
  | inl own ↦
      let none : row.routes ≡ [] = rw (eq-eqb row.chunk.0 chunk.0 own) at idle in
      let gone : without_chunk chunk rows ≡ rows = none_goes chunk rows (others_behind chunk row rows rise own) in
      let unowed : is_owed_row row ≡ false = rw none refl in
      rw (eq-eqb row.chunk.0 chunk.0 own, gone, unowed) refl
  | inr other ↦
      let rest_idle : IsOwedToNobody chunk rows = rw (ne_eqb row.chunk.0 chunk.0 other) at idle in
      let rest = owed_without chunk rows (behind_rise chunk row rows rise) rest_idle in
      rw (ne_eqb row.chunk.0 chunk.0 other) (ap (λ (l : List Row). cond (is_owed_row row) (row ∷ l) l) rest)
]

-- no more rows pass a test than there are
pub kept_few : (p : Row → Bool) (rows : List Row) → length (filter p rows) ≤ length rows
kept_few p [] = omega arith
kept_few p (row ∷ rows) = let rest = kept_few p rows in elim (cases_Bool (p row)) [ inl passes ↦ rw passes (omega (arith, rest)) | inr fails ↦ rw fails (omega (arith, rest)) ]
