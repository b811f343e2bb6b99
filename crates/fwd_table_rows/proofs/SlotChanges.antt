-- The rows of slots, when the slot of one chunk changes.
use Rattle.std.proofs.Common.{◌≡◌, ◌≢◌, ◌⊎◌, inl, inr, ℕ, zero, suc, ◌+◌, ◌-◌, ◌<◌, ◌≤◌, Bool, true, false, List, [], ◌∷◌, ◌++◌, length, get_or, set, Some, None, Result, Ok, Err, refl, sym, ◌∙◌, ap, subst, arith}
use Rattle.std.specs.Prelude.{All, Option, IfSome, filter, sum_by, option_map, option_to_list, is_some, IsTrue, if◌then◌else◌}
use Rattle.std.specs.List.{flat_map}
use Rattle.std.specs.Option.{option_map_or}
use Rattle.std.specs.List.Sorted.{IsSearchInRange, IsBinarySearchResult, IsNonDecreasingBy}
use Rattle.std.specs.Ordering.{nat_cmp, ordering_index}
use Rattle.std.specs.Result.{result_ok}
use Rattle.std.proofs.lemmas.Bool.{cases_eq, cases_lt}
use Rattle.std.proofs.lemmas.Bool.Decides.{nat_tests}
use Rattle.std.proofs.lemmas.Cmp.{ranked}
use Rattle.std.proofs.lemmas.Grind.{flat_map-append}
use Rattle.std.proofs.lemmas.List.{get_or_default, get_or-map, get_or-set_other, get_or-set_same, length-set, map-append}
use Rattle.std.proofs.lemmas.List.Elements.{All-cons, All-head, All-nil, All-tail, filter-append, filter_passes}
use Rattle.std.proofs.lemmas.List.Sums.{sum_by-cons}
use Rattle.fwd_base.specs.declared.ids.ChunkId.{ChunkId}
use Rattle.fwd_table_rows.specs.declared.slot.Slot.{Slot}
use Rattle.fwd_table_rows.specs.declared.row.Row.{Row}
use Rattle.fwd_table_rows.specs.declared.row.RowChange.{RowChange}
use Rattle.fwd_table_rows.specs.Changes.{row_with_change}
use Rattle.fwd_table_rows.specs.Slots.{HasOwnRow, IsPlaceOf, NumbersRise, is_owed_at, rows_in, slot_rows, timers_of_slot}
use Rattle.fwd_table_rows.specs.Rows.{idle_timers_of, is_owed_row, on_chunk, owed_rows, row_at, rows_at, timers_of_row, without_chunk}
use Rattle.fwd_table_rows.proofs.Chunks.{keeps_chunk}
use Rattle.fwd_table_rows.proofs.ChunkRows.{is_other, is_own, none_at, none_changes, none_goes}

-- ---- a fact about all rows holds for the row of each slot

module _ (P : Row → Type 0) where
  abbrev pub AtPlace : Slot → Type 0
  AtPlace place = IfSome place.row P

  stands_by : (row : Option Row) (rows : List Row) → IfSome row P → All P rows → All P (option_to_list row ++ rows)
  stands_by None rows one all = all
  stands_by (Some r) rows one all = All-cons P r rows one all

  pub All-rows_in : (places : List Slot) → All AtPlace places → All P (rows_in places)
  All-rows_in [] all = All-nil P
  All-rows_in (p ∷ ps) all = stands_by p.row (rows_in ps) (All-head AtPlace p ps all) (All-rows_in ps (All-tail AtPlace p ps all))

  first_by : (row : Option Row) (rows : List Row) → All P (option_to_list row ++ rows) → IfSome row P
  first_by None rows all = tt
  first_by (Some r) rows all = All-head P r rows all

  rest_by : (row : Option Row) (rows : List Row) → All P (option_to_list row ++ rows) → All P rows
  rest_by None rows all = all
  rest_by (Some r) rows all = All-tail P r rows all

  pub All-at_places : (places : List Slot) → All P (rows_in places) → All AtPlace places
  All-at_places [] all = All-nil AtPlace
  All-at_places (p ∷ ps) all = All-cons AtPlace p ps (first_by p.row (rows_in ps) all) (All-at_places ps (rest_by p.row (rows_in ps) all))

-- ---- sums and timers

pub sum_standing : (f : Row → ℕ) (places : List Slot) → sum_by f (rows_in places) ≡ sum_by (λ place. option_map_or f place.row 0) places
sum_standing f [] = refl
sum_standing f (p ∷ ps) =
    let both = sum_by-cons (λ (place : Slot). option_map_or f place.row 0) p ps in
    let rest = sum_standing f ps in
    by p.row (rows_in ps) both rest
  where
    by : (row : Option Row) (rows : List Row) {a b : ℕ} → a ≡ option_map_or f row 0 + b → sum_by f rows ≡ b → sum_by f (option_to_list row ++ rows) ≡ a
    by None rows both rest = omega (arith, both, rest)
    by (Some r) rows both rest = let all = sum_by-cons f r rows in omega (arith, both, rest, all)

pub timers_standing : (places : List Slot) → idle_timers_of (rows_in places) ≡ flat_map timers_of_slot places
timers_standing [] = refl
timers_standing (p ∷ ps) = flat_map-append timers_of_row (option_to_list p.row) (rows_in ps) ∙ ap (λ rest. timers_of_slot p ++ rest) (timers_standing ps)

pub few_standing : (places : List Slot) → length (rows_in places) ≤ length places
few_standing [] = omega arith
few_standing (p ∷ ps) = by p.row (rows_in ps) (few_standing ps)
  where
    by : (row : Option Row) (rows : List Row) {n : ℕ} → length rows ≤ n → length (option_to_list row ++ rows) ≤ suc n
    by None rows few = omega (arith, few)
    by (Some r) rows few = omega (arith, few)

-- ---- the slot of a chunk

module _ (chunk : ChunkId) where
  abbrev IsElse : Slot → Type 0
  IsElse place = place.chunk.0 ≢ chunk.0

  abbrev IsNot : Row → Type 0
  IsNot row = row.chunk.0 ≢ chunk.0

  -- ---- what a search finds

  comparisons_rise : (places : List Slot) → NumbersRise places → IsNonDecreasingBy (λ place. ordering_index (nat_cmp place.chunk.0 chunk.0)) places
  comparisons_rise places rise i j d within below =
      let numbers_rise : (get_or places i d).chunk.0 ≤ (get_or places j d).chunk.0 = grind (arith, rise i j d, λ (same : i ≡ j). ap (λ k. (get_or places k d).chunk.0) same) in
      grind (arith, nat_tests)

  pub place_found : (places : List Slot) (r : Result ℕ ℕ) → NumbersRise places → IsSearchInRange r (length places) → IsBinarySearchResult (λ place. nat_cmp place.chunk.0 chunk.0) places r
      → IsPlaceOf chunk places (result_ok r)
  place_found places (Ok at) rise within equal = (within, λ d. ranked (get_or places at d).chunk.0 chunk.0 _ (sym (equal d)))
  place_found places (Err at) rise within parted = λ k d below same. by k d below same (cases_lt k at)
    where
      by : (k : ℕ) (d : Slot) → k < length places → (get_or places k d).chunk.0 ≡ chunk.0 → (k < at) ⊎ (at ≤ k) → ⊥
      by k d below same (inl before) =
          let less : (get_or places k d).chunk.0 < chunk.0 = ranked (get_or places k d).chunk.0 chunk.0 _ (sym ((parted (comparisons_rise places rise)).0 k d (omega arith) before)) in
          omega (arith, less, same)
      by k d below same (inr behind) =
          let more : chunk.0 < (get_or places k d).chunk.0 = ranked (get_or places k d).chunk.0 chunk.0 _ (sym ((parted (comparisons_rise places rise)).1 k d behind below)) in
          omega (arith, more, same)

  -- ---- rows of other slots

  else_by : (p : Slot) (row : Option Row) → IfSome row (λ r. r.chunk.0 ≡ p.chunk.0) → IsElse p → IfSome row IsNot
  else_by p None own other = tt
  else_by p (Some r) own other = λ same. other (sym own ∙ same)

  -- rows of other slots are of other chunks
  pub others_stand : (places : List Slot) → All IsElse places → All HasOwnRow places → All IsNot (rows_in places)
  others_stand [] others own = All-nil IsNot
  others_stand (p ∷ ps) others own =
      stands_by IsNot p.row (rows_in ps) (else_by p p.row (All-head HasOwnRow p ps own) (All-head IsElse p ps others)) (others_stand ps (All-tail IsElse p ps others) (All-tail HasOwnRow p ps own))

  behind_rise : (p : Slot) (ps : List Slot) → NumbersRise (p ∷ ps) → NumbersRise ps
  behind_rise p ps rise i j d less within = rise (suc i) (suc j) d (omega (arith, less)) (omega (arith, within))

  others_behind : (p : Slot) (ps : List Slot) → NumbersRise (p ∷ ps) → p.chunk.0 ≡ chunk.0 → All IsElse ps
  others_behind p ps rise own k d within same =
      let less : p.chunk.0 < (get_or ps k d).chunk.0 = rise 0 (suc k) d (omega arith) (omega (arith, within)) in
      omega (arith, less, own, same)

  other_before : (p : Slot) (ps : List Slot) (i : ℕ) (d : Slot) → NumbersRise (p ∷ ps) → i < length ps → (get_or ps i d).chunk.0 ≡ chunk.0 → IsElse p
  other_before p ps i d rise within own same =
      let less : p.chunk.0 < (get_or ps i d).chunk.0 = rise 0 (suc i) d (omega arith) (omega (arith, within)) in
      omega (arith, less, own, same)

  -- the row of the chunk among rows of which it alone may be of the chunk
  found_first : (row : Option Row) (rows : List Row) → IfSome row (λ r. r.chunk.0 ≡ chunk.0) → All IsNot rows → row_at chunk (option_to_list row ++ rows) ≡ row
  found_first None rows own others = none_at chunk rows others
  found_first (Some r) rows own others = rw (is_own chunk r own) refl

  found_behind : (row : Option Row) (rows : List Row) → IfSome row IsNot → row_at chunk (option_to_list row ++ rows) ≡ row_at chunk rows
  found_behind None rows other = refl
  found_behind (Some r) rows other = rw (is_other chunk r other) refl

  changed_first : (f : Row → Row) (row : Option Row) (rows : List Row) → IfSome row (λ r. r.chunk.0 ≡ chunk.0) → All IsNot rows → on_chunk chunk f (option_to_list row ++ rows) ≡ option_to_list (option_map f row) ++ rows
  changed_first f None rows own others = none_changes chunk f rows others
  changed_first f (Some r) rows own others = rw (is_own chunk r own) (ap (λ (l : List Row). f r ∷ l) (none_changes chunk f rows others))

  changed_behind : (f : Row → Row) (row : Option Row) (rows : List Row) → IfSome row IsNot → on_chunk chunk f (option_to_list row ++ rows) ≡ option_to_list row ++ on_chunk chunk f rows
  changed_behind f None rows other = refl
  changed_behind f (Some r) rows other = rw (is_other chunk r other) refl

  gone_first : (row : Option Row) (rows : List Row) → IfSome row (λ r. r.chunk.0 ≡ chunk.0) → All IsNot rows → without_chunk chunk (option_to_list row ++ rows) ≡ rows
  gone_first None rows own others = none_goes chunk rows others
  gone_first (Some r) rows own others = rw (is_own chunk r own) (none_goes chunk rows others)

  gone_behind : (row : Option Row) (rows : List Row) → IfSome row IsNot → without_chunk chunk (option_to_list row ++ rows) ≡ option_to_list row ++ without_chunk chunk rows
  gone_behind None rows other = refl
  gone_behind (Some r) rows other = rw (is_other chunk r other) refl

  own_by : (p : Slot) (row : Option Row) → IfSome row (λ r. r.chunk.0 ≡ p.chunk.0) → p.chunk.0 ≡ chunk.0 → IfSome row (λ r. r.chunk.0 ≡ chunk.0)
  own_by p None own here = tt
  own_by p (Some r) own here = own ∙ here

  module _ (d : Slot) where
    pub row_there : (places : List Slot) (i : ℕ) → NumbersRise places → All HasOwnRow places → i < length places → (get_or places i d).chunk.0 ≡ chunk.0 → row_at chunk (rows_in places) ≡ (get_or places i d).row
    row_there [] i rise own within here = absurd (omega (arith, within))
    row_there (p ∷ ps) zero rise own within here =
        found_first p.row (rows_in ps) (own_by p p.row (All-head HasOwnRow p ps own) here) (others_stand ps (others_behind p ps rise here) (All-tail HasOwnRow p ps own))
    row_there (p ∷ ps) (suc i) rise own within here =
        let below : i < length ps = omega (arith, within) in
        found_behind p.row (rows_in ps) (else_by p p.row (All-head HasOwnRow p ps own) (other_before p ps i d rise below here))
        ∙ row_there ps i (behind_rise p ps rise) (All-tail HasOwnRow p ps own) below here

    pub change_there : (f : Row → Row) (places : List Slot) (i : ℕ) → NumbersRise places → All HasOwnRow places → i < length places → (get_or places i d).chunk.0 ≡ chunk.0
        → on_chunk chunk f (rows_in places) ≡ rows_in (set places i (record (get_or places i d) { row = option_map f (get_or places i d).row }))
    change_there f [] i rise own within here = absurd (omega (arith, within))
    change_there f (p ∷ ps) zero rise own within here =
        changed_first f p.row (rows_in ps) (own_by p p.row (All-head HasOwnRow p ps own) here) (others_stand ps (others_behind p ps rise here) (All-tail HasOwnRow p ps own))
    change_there f (p ∷ ps) (suc i) rise own within here =
        let below : i < length ps = omega (arith, within) in
        changed_behind f p.row (rows_in ps) (else_by p p.row (All-head HasOwnRow p ps own) (other_before p ps i d rise below here))
        ∙ ap (λ (l : List Row). option_to_list p.row ++ l) (change_there f ps i (behind_rise p ps rise) (All-tail HasOwnRow p ps own) below here)

    pub clear_there : (places : List Slot) (i : ℕ) → NumbersRise places → All HasOwnRow places → i < length places → (get_or places i d).chunk.0 ≡ chunk.0
        → without_chunk chunk (rows_in places) ≡ rows_in (set places i (record (get_or places i d) { row = None }))
    clear_there [] i rise own within here = absurd (omega (arith, within))
    clear_there (p ∷ ps) zero rise own within here =
        gone_first p.row (rows_in ps) (own_by p p.row (All-head HasOwnRow p ps own) here) (others_stand ps (others_behind p ps rise here) (All-tail HasOwnRow p ps own))
    clear_there (p ∷ ps) (suc i) rise own within here =
        let below : i < length ps = omega (arith, within) in
        gone_behind p.row (rows_in ps) (else_by p p.row (All-head HasOwnRow p ps own) (other_before p ps i d rise below here))
        ∙ ap (λ (l : List Row). option_to_list p.row ++ l) (clear_there ps i (behind_rise p ps rise) (All-tail HasOwnRow p ps own) below here)

-- a row is the only one of its chunk, and is seen at its index
pub stands_at : (places : List Slot) (i : ℕ) (place : Slot) (row : Row) → NumbersRise places → All HasOwnRow places → i < length places → place ≡ get_or places i place → place.row ≡ Some row → get_or (slot_rows places) i None ≡ row_at row.chunk (rows_in places)
stands_at places i place row rise own within is stands =
    let there : (get_or places i place).row ≡ Some row = subst (λ (p : Slot). p.row ≡ Some row) is stands in
    let its : row.chunk.0 ≡ (get_or places i place).chunk.0 = subst (λ (r : Option Row). IfSome r (λ (one : Row). one.chunk.0 ≡ (get_or places i place).chunk.0)) there (own i place within) in
    get_or-map (λ (p : Slot). p.row) places i place None within ∙ sym (row_there row.chunk place places i rise own within (sym its))

-- ---- slots stay in order

set_number : (places : List Slot) (i k : ℕ) (new d : Slot) → i < length places → new.chunk.0 ≡ (get_or places i d).chunk.0 → (get_or (set places i new) k d).chunk.0 ≡ (get_or places k d).chunk.0
set_number places i k new d within same = elim (cases_eq k i) [
  | inl here ↦ rw here (ap (λ (p : Slot). p.chunk.0) (get_or-set_same places i new d within) ∙ same)
  | inr apart ↦ ap (λ (p : Slot). p.chunk.0) (get_or-set_other places i k new d apart)
]

pub numbers_stay : (places : List Slot) (i : ℕ) (new d : Slot) → i < length places → new.chunk.0 ≡ (get_or places i d).chunk.0 → NumbersRise places → NumbersRise (set places i new)
numbers_stay places i new d within same rise j k e less below =
    let long = length-set places i new in
    let there : k < length places = omega (arith, below, long) in
    let same_e : new.chunk.0 ≡ (get_or places i e).chunk.0 = same ∙ ap (λ (p : Slot). p.chunk.0) (get_or_default places i d e within) in
    rw (set_number places i j new e within same_e, set_number places i k new e within same_e) (rise j k e less there)

pub own_changed : (change : RowChange) (place : Slot) → HasOwnRow place → HasOwnRow (record place { row = option_map (row_with_change change) place.row })
own_changed change place own = by place.row own
  where
    by : (row : Option Row) → IfSome row (λ r. r.chunk.0 ≡ place.chunk.0) → IfSome (option_map (row_with_change change) row) (λ r. r.chunk.0 ≡ place.chunk.0)
    by None own = tt
    by (Some r) own = keeps_chunk change r ∙ own

-- ---- removing empty slots

module _ (keeps : Slot → Bool) (kept : Row → Bool) (same : (p : Slot) → keeps p ≡ option_map_or kept p.row false) where
  filter_by : (row : Option Row) (test : Bool) (p : Slot) (ps : List Slot) → p.row ≡ row → test ≡ option_map_or kept row false
      → rows_in (if test then p ∷ ps else ps) ≡ filter kept (option_to_list row) ++ rows_in ps
  filter_by None test p ps is kept_is = rw kept_is refl
  filter_by (Some r) true p ps is kept_is = rw (is, ← kept_is) refl
  filter_by (Some r) false p ps is kept_is = rw (← kept_is) refl

  pub filter_standing : (places : List Slot) → rows_in (filter keeps places) ≡ filter kept (rows_in places)
  filter_standing [] = refl
  filter_standing (p ∷ ps) =
      filter_by p.row (keeps p) p (filter keeps ps) refl (same p)
      ∙ ap (λ (l : List Row). filter kept (option_to_list p.row) ++ l) (filter_standing ps)
      ∙ sym (filter-append kept (option_to_list p.row) (rows_in ps))

filter_true : (rows : List Row) → filter (λ row. true) rows ≡ rows
filter_true [] = refl
filter_true (row ∷ rows) = ap (λ (l : List Row). row ∷ l) (filter_true rows)

pub full_stand : (places : List Slot) → rows_in (filter (λ place. is_some place.row) places) ≡ rows_in places
full_stand places = filter_standing (λ (place : Slot). is_some place.row) (λ (row : Row). true) (λ place. by place.row) places ∙ filter_true (rows_in places)
  where
    by : (row : Option Row) → is_some row ≡ option_map_or (λ r. true) row false
    by None = refl
    by (Some r) = refl

pub owed_stand : (places : List Slot) → rows_in (filter is_owed_at places) ≡ owed_rows (rows_in places)
owed_stand places = filter_standing is_owed_at is_owed_row (λ place. refl) places

pub all_full : (places : List Slot) → All (λ place. IsTrue (is_some place.row)) (filter (λ place. is_some place.row) places)
all_full places = filter_passes (λ (place : Slot). is_some place.row) places

-- ---- the end

pub standing_push : (places : List Slot) (chunk : ChunkId) (row : Row) → rows_in (places ++ record { chunk = chunk; row = Some row } ∷ []) ≡ rows_in places ++ row ∷ []
standing_push places chunk row =
    ap rows_at (map-append (λ (place : Slot). place.row) places (record { chunk = chunk; row = Some row } ∷ [])) ∙ flat_map-append option_to_list (slot_rows places) (Some row ∷ [])

-- all slots are below any bound of the last one
pub below_last : (places : List Slot) (last : Slot) (n : ℕ) → NumbersRise places → last ≡ get_or places (length places - 1) last → last.chunk.0 < n → All (λ place. place.chunk.0 < n) places
below_last places last n rise is less k d within =
    let end : length places - 1 < length places = omega (arith, within) in
    let at_end : last.chunk.0 ≡ (get_or places (length places - 1) d).chunk.0 = ap (λ (p : Slot). p.chunk.0) (is ∙ get_or_default places (length places - 1) last d end) in
    elim (cases_lt k (length places - 1)) [
      | inl before ↦ let under = rise k (length places - 1) d before end in omega (arith, under, at_end, less)
      | inr behind ↦
          let same : k ≡ length places - 1 = omega (arith, behind, within) in
          let there : (get_or places k d).chunk.0 ≡ (get_or places (length places - 1) d).chunk.0 = ap (λ (i : ℕ). (get_or places i d).chunk.0) same in
          omega (arith, there, at_end, less)
    ]

-- slots whose rows are below a number are below it too, if none is empty
pub below_rows : (n : ℕ) (places : List Slot) → All HasOwnRow places → All (λ place. IsTrue (is_some place.row)) places → All (λ row. row.chunk.0 < n) (rows_in places) → All (λ place. place.chunk.0 < n) places
below_rows n [] own full below = All-nil (λ (place : Slot). place.chunk.0 < n)
below_rows n (p ∷ ps) own full below =
    All-cons (λ (place : Slot). place.chunk.0 < n) p ps
    (by p.row (All-head HasOwnRow p ps own) (All-head (λ (place : Slot). IsTrue (is_some place.row)) p ps full) (first_by (λ (row : Row). row.chunk.0 < n) p.row (rows_in ps) below))
    (below_rows n ps (All-tail HasOwnRow p ps own) (All-tail (λ (place : Slot). IsTrue (is_some place.row)) p ps full) (rest_by (λ (row : Row). row.chunk.0 < n) p.row (rows_in ps) below))
  where
    by : (row : Option Row) → IfSome row (λ r. r.chunk.0 ≡ p.chunk.0) → IsTrue (is_some row) → IfSome row (λ r. r.chunk.0 < n) → p.chunk.0 < n
    by None same is less = absurd (cc is)
    by (Some r) same is less = omega (arith, same, less)

-- ---- removing the first slot

-- the same rows remain, and the slots stay in order
pub record Keeps (old new : List Slot) : Type 0 where
  pub rows : rows_in new ≡ rows_in old
  pub numbers : NumbersRise old → NumbersRise new
  pub own : All HasOwnRow old → All HasOwnRow new
