-- Counts of rows.
use Rattle.std.proofs.Common.{◌≡◌, ℕ, ◌+◌, ◌-◌, min, List, get_or, take, Option, Some, None, sym, ◌∙◌, ap, arith}
use Rattle.std.specs.Prelude.{sum_by, option_map}
use Rattle.std.proofs.lemmas.List.Sums.{sum_by_push}
use Prim.Native.Nat.{◌^◌}
use Rattle.fwd_table.specs.Row.{Row}
use Rattle.fwd_table.specs.RowSeen.{RowSeen}
use Rattle.fwd_table.specs.Rows.{rows_at, seen_of}
use Rattle.fwd_table.proofs.SlotRows.{none_seen, one_seen as seen_at}
use Rattle.fwd_pages.specs.declared.count.Counted.{Counted}
use Rattle.fwd_pages.specs.Count.{count_of, one_seen}

added : (count one sum next more : ℕ) → count ≡ min sum (2 ^ 64 - 1) → next ≡ min (count + one) (2 ^ 64 - 1) → more ≡ sum + one → next ≡ min more (2 ^ 64 - 1)
added count one sum next more is then plus = rw (then, is, plus) (omega arith)

pub count_more : (which : Counted) (places : List (Option Row)) (n : ℕ) (seen : RowSeen) (count next : ℕ) → Some seen ≡ option_map seen_of (get_or places n None)
    → count ≡ count_of which (rows_at (take n places)) → next ≡ min (count + one_seen which seen) (2 ^ 64 - 1) → next ≡ count_of which (rows_at (take (n + 1) places))
count_more which places n seen count next is before then =
    let at = seen_at seen_of places n seen is in
    let one : Row → ℕ = λ row. one_seen which (seen_of row) in
    let sum : sum_by one (rows_at (take (n + 1) places)) ≡ sum_by one (rows_at (take n places)) + one_seen which seen =
    ap (sum_by one) at.more ∙ sum_by_push one (rows_at (take n places)) at.row ∙ ap (λ (s : RowSeen). sum_by one (rows_at (take n places)) + one_seen which s) (sym at.is)
    in
    added count (one_seen which seen) (sum_by one (rows_at (take n places))) next (sum_by one (rows_at (take (n + 1) places))) before then sum

pub count_same : (which : Counted) (places : List (Option Row)) (n count next : ℕ) → None ≡ option_map seen_of (get_or places n None) → count ≡ count_of which (rows_at (take n places)) → next ≡ count
    → next ≡ count_of which (rows_at (take (n + 1) places))
count_same which places n count next is before then = then ∙ before ∙ sym (ap (count_of which) (none_seen seen_of places n is))
