use Rattle.std.proofs.Common.{sym, ◌∙◌, arith}
use Rattle.std.specs.Ordering.{eq_by_cmp}
use Rattle.std.proofs.lemmas.Bool.Decides.{nat_tests}
use Rattle.std.proofs.lemmas.List.Filters.{dedup_is}
use Rattle.std.proofs.lemmas.List.Kept.{IsStrictlySortedBy-dedup}
use Rattle.std.proofs.lemmas.List.Sorted.{list_any-IsPermutation}
use Rattle.fwd_retry.specs.Timer.{by_time}
use Rattle.fwd_table_rows.proofs.DueOrder.{any_dedup, is_in_time, time_total}
use Rattle.fwd_table_rows.proofs.slot.put_in_time.Goals as goal

pub returns : goal.returns
returns c =
    let sorted = c.sort_unstable.new.self.items in
    rw (dedup_is _ _ _ c.dedup.ensures.filtered)
    (is_in_time c.args.timers.now.items _ (IsStrictlySortedBy-dedup time_total (λ a b. grind (arith, nat_tests)) sorted c.sort_unstable.ensures.sorted)
    (λ z. any_dedup z _ (λ a b. grind (arith, nat_tests)) sorted ∙ sym (list_any-IsPermutation (eq_by_cmp by_time z) _ _ c.sort_unstable.ensures.permutation)))
