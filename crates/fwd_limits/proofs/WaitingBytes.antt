-- Waiting bytes of a chunk, and of the others.
use Rattle.std.proofs.Common.{◌≡◌, ◌+◌, Bool, true, false, ◌&&◌, not, cond, List, [], ◌∷◌, refl, sym, ap, ◌∙◌, arith, Option, Some, None}
use Rattle.std.specs.Prelude.{filter, option_map, option_to_list, IfSome}
use Rattle.std.proofs.lemmas.List.Filters.{sum_by-filter_both}
use Rattle.fwd_base.specs.declared.ids.ChunkId.{ChunkId}
use Rattle.fwd_base.specs.declared.ids.OutputId.{OutputId}
use Rattle.fwd_table.specs.Row.{Row}
use Rattle.fwd_table.specs.RowSeen.{RowSeen}
use Rattle.fwd_table.specs.Routes.{flying_of, IsMaskOf}
use Rattle.fwd_table.specs.Rows.{is_row_of, seen_of}
use Rattle.fwd_table.specs.Usage.{in_file, is_waiting, size_of, waiting_for}
use Rattle.fwd_limits.specs.ChunkState.{state_in_row, waiting_size}
use Rattle.fwd_limits.specs.Evictions.{other_waiting}
use Rattle.fwd_limits.proofs.ChunkStates.{seen_as}
use Rattle.fwd_limits.proofs.Sums.{size_if}

-- how much waits of the rows of a chunk, which are one or none
pub waiting_is : (output : OutputId) (own : List Row) (at : Option Row) (seen : RowSeen) → own ≡ option_to_list at → Some seen ≡ option_map seen_of at
    → IfSome at (λ row. IsMaskOf row.routes seen.owed) → IfSome at (λ row. IsMaskOf (flying_of row.routes) seen.flying) → waiting_size (state_in_row output seen) ≡ size_of (waiting_for output own)
waiting_is output own None seen alone is owes flies = absurd (cc)
waiting_is output own (Some row) seen alone is owes flies =
    let same : seen ≡ seen_of row = cc in
    ap waiting_size (seen_as row seen output same owes flies) ∙ sym (ap (λ (rs : List Row). size_of (waiting_for output rs)) alone ∙ size_if (in_file row && is_waiting output row) row)

filter_twice : (p q r : Row → Bool) → ((row : Row) → r row ≡ (q row && p row)) → (rows : List Row) → filter p (filter q rows) ≡ filter r rows
filter_twice p q r is [] = refl
filter_twice p q r is (row ∷ rows) = by (filter_twice p q r is rows) (q row) (p row) refl refl
  where
    by : filter p (filter q rows) ≡ filter r rows → (b c : Bool) → q row ≡ b → p row ≡ c → filter p (cond (q row) (row ∷ filter q rows) (filter q rows)) ≡ cond (r row) (row ∷ filter r rows) (filter r rows)
    by again true true x y = rw (is row, x, y) (ap (λ (rs : List Row). row ∷ rs) again)
    by again true false x y = rw (is row, x, y) again
    by again false c x y = rw (is row, x) again

grouped : (a b c : Bool) → (a && (b && c)) ≡ ((a && b) && c)
grouped true b c = refl
grouped false b c = refl

swapped : (a b : Bool) → (a && b) ≡ (b && a)
swapped true true = refl
swapped true false = refl
swapped false true = refl
swapped false false = refl

-- what waits is of this chunk or of others
pub waiting_splits : (output : OutputId) (chunk : ChunkId) (rows : List Row) → size_of (waiting_for output (filter (is_row_of chunk) rows)) + size_of (other_waiting output chunk rows) ≡ size_of (waiting_for output rows)
waiting_splits output chunk rows =
    let waits : Row → Bool = λ row. in_file row && is_waiting output row in
    let both = sum_by-filter_both (is_row_of chunk) (λ row. not (is_row_of chunk row)) (λ _. refl) (λ (row : Row). row.size) (waiting_for output rows) in
    let own : filter (is_row_of chunk) (waiting_for output rows) ≡ waiting_for output (filter (is_row_of chunk) rows) =
    filter_twice (is_row_of chunk) waits (λ row. waits row && is_row_of chunk row) (λ row. refl) rows
    ∙ sym (filter_twice waits (is_row_of chunk) (λ row. waits row && is_row_of chunk row) (λ row. swapped (waits row) (is_row_of chunk row)) rows) in
    let rest : filter (λ row. not (is_row_of chunk row)) (waiting_for output rows) ≡ other_waiting output chunk rows =
    filter_twice (λ row. not (is_row_of chunk row)) waits (λ row. in_file row && (is_waiting output row && not (is_row_of chunk row))) (λ row. grouped (in_file row) (is_waiting output row) (not (is_row_of chunk row))) rows in
    omega (arith, both, ap size_of own, ap size_of rest)
