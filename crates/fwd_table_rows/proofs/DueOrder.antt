-- Timers in order: of the lists in order, one alone has given timers, each once.
use Rattle.std.proofs.Common.{◌≡◌, Bool, true, false, cond, List, [], ◌∷◌, fold, refl, sym, ◌∙◌, ap}
use Rattle.std.specs.Prelude.{◌&&◌, ◌||◌, filter}
use Rattle.std.specs.declared.cmp.Ordering.{Ordering}
use Rattle.std.specs.declared.cmp.Ordering.TheVariants.{Less, Equal, Greater}
use Rattle.std.specs.Ordering.{nat_cmp, ordering_then, ordering_reverse, match_ordering, eq_by_cmp, is_eq}
use Rattle.std.specs.Cmp.{IsTotalOrder}
use Rattle.std.specs.List.{AllByRecursion, dedup, dedup_from, list_any}
use Rattle.std.specs.List.Sorted.{IsStrictlySortedBy}
use Rattle.std.specs.BTreeSet.{insert_key}
use Rattle.std.proofs.lemmas.Cmp.{then_total, on_total, nat_cmp_total}
use Rattle.std.proofs.lemmas.List.Kept.{IsStrictlySortedBy-filter}
use Rattle.std.proofs.lemmas.Map.Keys.{sorted_head, sorted_tail}
use Rattle.std.proofs.lemmas.Map.Lookups.{btree_set_from_contains, exact_unsigned}
use Rattle.std.proofs.lemmas.Map.Views.{any-filter_same}
use Rattle.fwd_retry.specs.declared.timer.Timer.{Timer}
use Rattle.fwd_retry.specs.Timer.{by_time, in_time}

-- ---- the order of timers is total, and tells them apart

pub time_total : IsTotalOrder by_time
time_total = then_total (on_total (λ (t : Timer). t.due) nat_cmp_total) (then_total (on_total (λ (t : Timer). t.chunk.0) nat_cmp_total) (on_total (λ (t : Timer). t.output.0) nat_cmp_total))

both_equal : (a b : Ordering) → ordering_then a b ≡ Equal → (a ≡ Equal) × (b ≡ Equal)
both_equal Less b is = absurd (cc is)
both_equal Equal b is = (refl, is)
both_equal Greater b is = absurd (cc is)

pub time_exact : (a b : Timer) → by_time a b ≡ Equal → a ≡ b
time_exact a b is =
    let dues = both_equal (nat_cmp a.due b.due) (ordering_then (nat_cmp a.chunk.0 b.chunk.0) (nat_cmp a.output.0 b.output.0)) is in
    let routes = both_equal (nat_cmp a.chunk.0 b.chunk.0) (nat_cmp a.output.0 b.output.0) dues.1 in
    let due = exact_unsigned a.due b.due dues.0 in
    let chunk = exact_unsigned a.chunk.0 b.chunk.0 routes.0 in
    let output = exact_unsigned a.output.0 b.output.0 routes.1 in
    (λ i. record { due = due i; chunk = record { 0 = chunk i }; output = record { 0 = output i } })

equal : (r : Ordering) → is_eq r ≡ true → r ≡ Equal
equal Less is = absurd (cc is)
equal Equal is = refl
equal Greater is = absurd (cc is)

-- ---- timers put in order one by one are in order

behind : (k x : Timer) → by_time k x ≡ Less → (xs : List Timer) → AllByRecursion (λ y. by_time x y ≡ Less) xs → AllByRecursion (λ y. by_time k y ≡ Less) xs
behind k x less [] all = tt
behind k x less (y ∷ ys) all = (time_total.trans k x y less all.0, behind k x less ys all.1)

insert_behind : (x k : Timer) → by_time x k ≡ Less → (xs : List Timer) → AllByRecursion (λ y. by_time x y ≡ Less) xs → AllByRecursion (λ y. by_time x y ≡ Less) (insert_key by_time xs k)
insert_behind x k less [] all = (less, tt)
insert_behind x k less (y ∷ ys) all = by (by_time k y) (insert_behind x k less ys all.1)
  where
    by : (r : Ordering) → AllByRecursion (λ z. by_time x z ≡ Less) (insert_key by_time ys k) → AllByRecursion (λ z. by_time x z ≡ Less) (match_ordering r (k ∷ y ∷ ys) (y ∷ ys) (y ∷ insert_key by_time ys k))
    by Less rest = (less, all)
    by Equal rest = all
    by Greater rest = (all.0, rest)

sorted_cons : (x : Timer) (xs : List Timer) → AllByRecursion (λ y. by_time x y ≡ Less) xs → IsStrictlySortedBy by_time xs → IsStrictlySortedBy by_time (x ∷ xs)
unfolding IsStrictlySortedBy
sorted_cons x xs all sorted = (all, sorted)

sorted_none : IsStrictlySortedBy by_time []
unfolding IsStrictlySortedBy
sorted_none = tt

sorted_insert : (ks : List Timer) (k : Timer) → IsStrictlySortedBy by_time ks → IsStrictlySortedBy by_time (insert_key by_time ks k)
sorted_insert [] k sorted = sorted_cons k [] tt sorted_none
sorted_insert (x ∷ xs) k sorted = by (by_time k x) refl (sorted_insert xs k (sorted_tail by_time x xs sorted))
  where
    by : (r : Ordering) → by_time k x ≡ r → IsStrictlySortedBy by_time (insert_key by_time xs k) → IsStrictlySortedBy by_time (match_ordering r (k ∷ x ∷ xs) (x ∷ xs) (x ∷ insert_key by_time xs k))
    by Less is rest = sorted_cons k (x ∷ xs) (is, behind k x is xs (sorted_head by_time x xs sorted)) sorted
    by Equal is rest = sorted
    by Greater is rest = sorted_cons x (insert_key by_time xs k) (insert_behind x k (time_total.antisymm x k ∙ ap ordering_reverse is) xs (sorted_head by_time x xs sorted)) rest

sorted_fold : (ks ts : List Timer) → IsStrictlySortedBy by_time ks → IsStrictlySortedBy by_time (fold (insert_key by_time) ks ts)
sorted_fold ks [] sorted = sorted
sorted_fold ks (t ∷ ts) sorted = sorted_fold (insert_key by_time ks t) ts (sorted_insert ks t sorted)

pub in_time_sorted : (ts : List Timer) → IsStrictlySortedBy by_time (in_time ts)
in_time_sorted ts = sorted_fold [] ts sorted_none

-- ---- they are the same timers

module _ (z : Timer) where
  abbrev is_z : Timer → Bool
  is_z t = eq_by_cmp by_time z t

  either : (a b c : Bool) → (a || (b || c)) ≡ (b || (a || c))
  either true true c = refl
  either true false c = refl
  either false b c = refl

  twice : (a b : Bool) → (a || b) ≡ (a || (a || b))
  twice true b = refl
  twice false b = refl

  any_insert : (ks : List Timer) (k : Timer) → list_any is_z (insert_key by_time ks k) ≡ (is_z k || list_any is_z ks)
  any_insert [] k = refl
  any_insert (x ∷ xs) k = by (by_time k x) refl (any_insert xs k)
    where
      by : (r : Ordering) → by_time k x ≡ r → list_any is_z (insert_key by_time xs k) ≡ (is_z k || list_any is_z xs) → list_any is_z (match_ordering r (k ∷ x ∷ xs) (x ∷ xs) (x ∷ insert_key by_time xs k)) ≡ (is_z k || (is_z x || list_any is_z xs))
      by Less is rest = refl
      by Equal is rest = rw (time_exact k x is) (twice (is_z x) (list_any is_z xs))
      by Greater is rest = ap (λ b. is_z x || b) rest ∙ either (is_z x) (is_z k) (list_any is_z xs)

  any_fold : (ks ts : List Timer) → list_any is_z (fold (insert_key by_time) ks ts) ≡ (list_any is_z ts || list_any is_z ks)
  any_fold ks [] = refl
  any_fold ks (t ∷ ts) =
      any_fold (insert_key by_time ks t) ts
      ∙ (ap (λ b. list_any is_z ts || b) (any_insert ks t) ∙ other (list_any is_z ts) (is_z t) (list_any is_z ks))
    where
      other : (a b c : Bool) → (a || (b || c)) ≡ ((b || a) || c)
      other true true c = refl
      other true false c = refl
      other false true c = refl
      other false false c = refl

  or_none : (a : Bool) → (a || false) ≡ a
  or_none true = refl
  or_none false = refl

  pub any_in_time : (ts : List Timer) → list_any is_z (in_time ts) ≡ list_any is_z ts
  any_in_time ts = any_fold [] ts ∙ or_none (list_any is_z ts)

  -- a repeated timer is left out
  module _ (same : Timer → Timer → Bool) (tells : (a b : Timer) → same a b ≡ eq_by_cmp by_time a b) where
    any_dedup_from : (k : Timer) (xs : List Timer) → list_any is_z (dedup_from same k xs) ≡ list_any is_z (k ∷ xs)
    any_dedup_from k [] = refl
    any_dedup_from k (x ∷ xs) = by (same x k) refl (any_dedup_from k xs) (any_dedup_from x xs)
      where
        by : (b : Bool) → same x k ≡ b → list_any is_z (dedup_from same k xs) ≡ (is_z k || list_any is_z xs) → list_any is_z (dedup_from same x xs) ≡ (is_z x || list_any is_z xs)
            → list_any is_z (cond b (dedup_from same k xs) (k ∷ dedup_from same x xs)) ≡ (is_z k || (is_z x || list_any is_z xs))
        by true is drops keeps =
            drops
            ∙ (twice (is_z k) (list_any is_z xs)
            ∙ ap (λ t. is_z k || (is_z t || list_any is_z xs)) (sym (time_exact x k (equal (by_time x k) (sym (tells x k) ∙ is)))))
        by false is drops keeps = ap (λ b. is_z k || b) keeps

    pub any_dedup : (xs : List Timer) → list_any is_z (dedup same xs) ≡ list_any is_z xs
    any_dedup [] = refl
    any_dedup (x ∷ xs) = any_dedup_from x xs

-- ---- a sorted list with the same timers is that one

pub is_in_time : (ts us : List Timer) → IsStrictlySortedBy by_time us → ((z : Timer) → list_any (eq_by_cmp by_time z) us ≡ list_any (eq_by_cmp by_time z) ts) → us ≡ in_time ts
is_in_time ts us sorted same =
    btree_set_from_contains time_total (record { keys = us }) (record { keys = in_time ts }) sorted (in_time_sorted ts) (λ z. same z ∙ sym (any_in_time z ts)) time_exact

-- putting timers in order and leaving some out go together
pub in_time-filter : (p : Timer → Bool) (ts : List Timer) → filter p (in_time ts) ≡ in_time (filter p ts)
in_time-filter p ts =
    is_in_time (filter p ts) (filter p (in_time ts)) (IsStrictlySortedBy-filter by_time p (in_time ts) (in_time_sorted ts)) same
  where
    kept : (z : Timer) (us : List Timer) → list_any (eq_by_cmp by_time z) (filter p us) ≡ (p z && list_any (eq_by_cmp by_time z) us)
    kept z us = any-filter_same (eq_by_cmp by_time z) p (p z) (λ t is. ap p (sym (time_exact z t (equal (by_time z t) is)))) us

    same : (z : Timer) → list_any (eq_by_cmp by_time z) (filter p (in_time ts)) ≡ list_any (eq_by_cmp by_time z) (filter p ts)
    same z = kept z (in_time ts) ∙ (ap (λ b. p z && b) (any_in_time z ts) ∙ sym (kept z ts))
