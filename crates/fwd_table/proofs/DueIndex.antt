-- The timers of the idle routes, when a row changes, and what an index says of them.
use Rattle.std.proofs.Common.{◌≡◌, ◌≢◌, ◌⊎◌, inl, inr, ℕ, Bool, true, false, not, cond, List, [], ◌∷◌, ◌++◌, length, Option, Some, None, Result, Ok, Err, refl, sym, ◌∙◌, ap, subst, append-nil, arith}
use Rattle.std.specs.Prelude.{◌==◌, ◌&&◌, ◌||◌, All, filter, Contains, MatchOption, OnOk, if◌then◌else◌}
use Rattle.std.specs.Option.{option_map_or}
use Rattle.std.specs.Result.{is_ok}
use Rattle.std.specs.Ordering.{eq_by_cmp, is_eq}
use Rattle.std.proofs.lemmas.Bool.{and_from, and_parts, cases_Bool, cases_eq, eq-eqb, eqb-true, ne_eqb, or_cases, or_left, or_right}
use Rattle.std.proofs.lemmas.Bool.Decides.{nat_tests}
use Rattle.std.proofs.lemmas.Grind.{flat_map-append}
use Rattle.std.proofs.lemmas.Nat.Bits.{bit_at-zero}
use Rattle.std.proofs.lemmas.List.Elements.{All-head, All-tail, filter-append}
use Rattle.std.proofs.lemmas.Map.Views.{any-filter_same, tells_apart, Contains-from_any}
use Rattle.fwd_base.specs.declared.ids.ChunkId.{ChunkId}
use Rattle.fwd_base.specs.declared.ids.OutputId.{OutputId}
use Rattle.fwd_retry.specs.declared.timer.Timer.{Timer}
use Rattle.fwd_retry.specs.Timer.{by_time, earlier, is_before, is_next, IsFirst}
use Rattle.fwd_retry.proofs.Order.{not_before_through}
use Rattle.fwd_retry.proofs.Members.{filter_member, member_cases, member_filter, member_here, not_of_none}
use Rattle.fwd_table_rows.specs.declared.route.Route.{Route}
use Rattle.fwd_table_rows.specs.declared.route.Change.{Change}
use Rattle.fwd_table_rows.specs.declared.route.Change.TheVariants.{Starts, Stays, Retries}
use Rattle.fwd_table_rows.specs.declared.row.Row.{Row}
use Rattle.fwd_table_rows.specs.declared.row.RowChange.{RowChange}
use Rattle.fwd_table_rows.specs.declared.row.RowChange.TheVariants.{Grows, Shuts, Changes, Resolves}
use Rattle.fwd_table_rows.specs.declared.row.Scope.{Scope}
use Rattle.fwd_table_rows.specs.declared.row.Scope.TheVariants as scopes
use Rattle.fwd_table_rows.specs.declared.slot.Slot.{Slot}
use Rattle.fwd_table_rows.specs.Slots.{timers_of_slot}
use Rattle.fwd_table_rows.specs.Changes.{is_in_scope, row_with_change, scope_of, with_change}
use Rattle.fwd_table_rows.specs.Routes.{idle_timers, is_next_to, is_to, on_output, timer_of, without_output}
use Rattle.fwd_table_rows.specs.Rows.{ChunksRise, idle_timers_of, is_owed_row, is_row_of, on_chunk, owed_rows, row_at, timers_of_row}
use Rattle.fwd_table_rows.proofs.ChunkRows.{behind_rise, is_other, is_own, others_behind}
use Rattle.fwd_table_rows.proofs.DueOrder.{time_exact}
use Rattle.fwd_table.specs.DueIndex.{by_output, key_of, is_among, is_inside, timers_in, timers_outside, IsFirstThat, IsIndexIfAny}
use Rattle.fwd_table.specs.declared.due_index.DueIndex.{DueIndex}
use Rattle.fwd_table.specs.declared.due_index.DueKey.{DueKey}

-- ---- the order of keys and that of timers agree on which are the same

same_key : (t z : Timer) → is_eq (by_output (key_of t) (key_of z)) ≡ eq_by_cmp by_time z t
same_key t z = grind (arith, nat_tests)

-- ---- filtered timers of a row

none_kept : (ts : List Timer) → filter (λ t. false) ts ≡ []
none_kept [] = refl
none_kept (t ∷ ts) = none_kept ts

all_kept : (ts : List Timer) → filter (λ t. true) ts ≡ ts
all_kept [] = refl
all_kept (t ∷ ts) = ap (λ us. t ∷ us) (all_kept ts)

module _ (p q : Timer → Bool) where
  agree_on_routes : (chunk : ChunkId) (rs : List Route) → ((r : Route) → p (timer_of chunk r) ≡ q (timer_of chunk r)) → filter p (idle_timers chunk rs) ≡ filter q (idle_timers chunk rs)
  agree_on_routes chunk [] same = refl
  agree_on_routes chunk (r ∷ rs) same =
      let rest = agree_on_routes chunk rs same in
      elim (cases_Bool r.flying) [
        | inl flies ↦ rw flies rest
        | inr idle ↦ rw idle (rw (same r) (ap (λ (ts : List Timer). cond (q (timer_of chunk r)) (timer_of chunk r ∷ ts) ts) rest))
      ]

  agree_on_row : (row : Row) → ((r : Route) → p (timer_of row.chunk r) ≡ q (timer_of row.chunk r)) → filter p (timers_of_row row) ≡ filter q (timers_of_row row)
  agree_on_row row same = by row.shut
    where
      by : (shut : Bool) → filter p (if shut then idle_timers row.chunk row.routes else []) ≡ filter q (if shut then idle_timers row.chunk row.routes else [])
      by true = agree_on_routes row.chunk row.routes same
      by false = refl

-- ---- the timers of one chunk's routes in a scope

module _ (chunk : ChunkId) (scope : Scope) where
  abbrev IsElse : Row → Type 0
  IsElse row = row.chunk.0 ≢ chunk.0

  own_row : (row : Row) → row.chunk.0 ≡ chunk.0 → filter (is_inside chunk scope) (timers_of_row row) ≡ timers_in scope row
  own_row row own = agree_on_row (is_inside chunk scope) (λ (t : Timer). is_in_scope scope t.output) row (λ r. rw (eq-eqb row.chunk.0 chunk.0 own) refl)

  other_row : (row : Row) → IsElse row → filter (is_inside chunk scope) (timers_of_row row) ≡ []
  other_row row other = agree_on_row (is_inside chunk scope) (λ (t : Timer). false) row (λ r. rw (ne_eqb row.chunk.0 chunk.0 other) refl) ∙ none_kept (timers_of_row row)

  other_rows : (rows : List Row) → All IsElse rows → filter (is_inside chunk scope) (idle_timers_of rows) ≡ []
  other_rows [] others = refl
  other_rows (row ∷ rows) others =
      rw (filter-append (is_inside chunk scope) (timers_of_row row) (idle_timers_of rows), other_row row (All-head IsElse row rows others))
      (other_rows rows (All-tail IsElse row rows others))

  pub own_timers : (rows : List Row) → ChunksRise rows → filter (is_inside chunk scope) (idle_timers_of rows) ≡ option_map_or (timers_in scope) (row_at chunk rows) []
  own_timers [] rise = refl
  own_timers (row ∷ rows) rise = elim (cases_eq row.chunk.0 chunk.0) [
    | inl own ↦
        rw (filter-append (is_inside chunk scope) (timers_of_row row) (idle_timers_of rows), own_row row own, other_rows rows (others_behind chunk row rows rise own), is_own chunk row own)
        (append-nil (timers_in scope row))
    | inr other ↦
        rw (filter-append (is_inside chunk scope) (timers_of_row row) (idle_timers_of rows), other_row row other, is_other chunk row other)
        (own_timers rows (behind_rise chunk row rows rise))
  ]

-- ---- the others stay when a row changes

keeps_output : (change : Change) (r : Route) → (with_change change r).output.0 ≡ r.output.0
keeps_output Starts r = refl
keeps_output Stays r = refl
keeps_output (Retries due) r = refl

module _ (chunk : ChunkId) (output : OutputId) (c : ChunkId) (own : c.0 ≡ chunk.0) where
  abbrev left : List Route → List Timer
  left rs = timers_outside chunk (scopes.To output) (idle_timers c rs)

  first_goes : (r : Route) (rs : List Route) → is_to output r ≡ true → left (r ∷ rs) ≡ left rs
  first_goes r rs to = elim (cases_Bool r.flying) [ inl flies ↦ rw flies refl | inr idle ↦ rw (idle, eq-eqb c.0 chunk.0 own, to) refl ]

  first_stays : (r : Route) (rs qs : List Route) → left rs ≡ left qs → left (r ∷ rs) ≡ left (r ∷ qs)
  first_stays r rs qs rest = elim (cases_Bool r.flying) [
    | inl flies ↦ rw flies rest
    | inr idle ↦ rw idle (ap (λ (ts : List Timer). cond (not (is_inside chunk (scopes.To output) (timer_of c r))) (timer_of c r ∷ ts) ts) rest)
  ]

  changed_routes : (change : Change) (rs : List Route) → left (on_output output (with_change change) rs) ≡ left rs
  changed_routes change [] = refl
  changed_routes change (r ∷ rs) = elim (cases_Bool (is_to output r)) [
    | inl to ↦
        let same : is_to output (with_change change r) ≡ true = rw (keeps_output change r) to in
        rw to (first_goes (with_change change r) (on_output output (with_change change) rs) same ∙ changed_routes change rs ∙ sym (first_goes r rs to))
    | inr other ↦ rw other (first_stays r (on_output output (with_change change) rs) rs (changed_routes change rs))
  ]

  left_routes : (rs : List Route) → left (without_output output rs) ≡ left rs
  left_routes [] = refl
  left_routes (r ∷ rs) = elim (cases_Bool (is_to output r)) [
    | inl to ↦ rw to (left_routes rs ∙ sym (first_goes r rs to))
    | inr other ↦ rw other (first_stays r (without_output output rs) rs (left_routes rs))
  ]

module _ (chunk : ChunkId) where
  none_left : (row : Row) → row.chunk.0 ≡ chunk.0 → timers_outside chunk scopes.All (timers_of_row row) ≡ []
  none_left row own =
      agree_on_row (λ (t : Timer). not (is_inside chunk scopes.All t)) (λ (t : Timer). false) row (λ r. rw (eq-eqb row.chunk.0 chunk.0 own) refl)
      ∙ none_kept (timers_of_row row)

  changed_row : (change : RowChange) (row : Row) → row.chunk.0 ≡ chunk.0 → timers_outside chunk (scope_of change) (timers_of_row (row_with_change change row)) ≡ timers_outside chunk (scope_of change) (timers_of_row row)
  changed_row (Grows size) row own = refl
  changed_row (Shuts now) row own = none_left (row_with_change (Shuts now) row) own ∙ sym (none_left row own)
  changed_row (Changes output change) row own = elim (cases_Bool row.shut) [ inl shut ↦ rw shut (changed_routes chunk output row.chunk own change row.routes) | inr opened ↦ rw opened refl ]
  changed_row (Resolves output) row own = elim (cases_Bool row.shut) [ inl shut ↦ rw shut (left_routes chunk output row.chunk own row.routes) | inr opened ↦ rw opened refl ]

  row_by : (change : RowChange) (row : Row) (test : Bool) → is_row_of chunk row ≡ test → timers_outside chunk (scope_of change) (timers_of_row (if test then row_with_change change row else row)) ≡ timers_outside chunk (scope_of change) (timers_of_row row)
  row_by change row true own = changed_row change row (eqb-true row.chunk.0 chunk.0 own)
  row_by change row false other = refl

  pub others_stay : (change : RowChange) (rows : List Row) → timers_outside chunk (scope_of change) (idle_timers_of (on_chunk chunk (row_with_change change) rows)) ≡ timers_outside chunk (scope_of change) (idle_timers_of rows)
  others_stay change [] = refl
  others_stay change (row ∷ rows) =
      let after : Row = if is_row_of chunk row then row_with_change change row else row in
      let out = λ (t : Timer). not (is_inside chunk (scope_of change) t) in
      filter-append out (timers_of_row after) (idle_timers_of (on_chunk chunk (row_with_change change) rows))
      ∙ ap (λ (ts : List Timer). ts ++ filter out (idle_timers_of (on_chunk chunk (row_with_change change) rows))) (row_by change row (is_row_of chunk row) refl)
      ∙ ap (λ (ts : List Timer). filter out (timers_of_row row) ++ ts) (others_stay change rows)
      ∙ sym (filter-append out (timers_of_row row) (idle_timers_of rows))

-- ---- rows without idle routes

pub owed_timers : (rows : List Row) → idle_timers_of (owed_rows rows) ≡ idle_timers_of rows
owed_timers [] = refl
owed_timers (row ∷ rows) = elim (cases_Bool (is_owed_row row)) [
  | inl owed ↦ rw owed (ap (λ (ts : List Timer). timers_of_row row ++ ts) (owed_timers rows))
  | inr none ↦ rw (none, by row.routes row.shut none) (owed_timers rows)
]
  where
    by : (routes : List Route) (shut : Bool) → not (length routes == 0) ≡ false → (if shut then idle_timers row.chunk routes else []) ≡ []
    by [] true none = refl
    by [] false none = refl
    by (r ∷ rs) shut none =
        let some : (length (r ∷ rs) == 0) ≡ false = ne_eqb (length (r ∷ rs)) 0 (λ same. omega (arith, same)) in
        let is : true ≡ false = rw some at none in
        absurd (cc is)

pub pushed_timers : (rows : List Row) (row : Row) → row.shut ≡ false → idle_timers_of (rows ++ row ∷ []) ≡ idle_timers_of rows
pushed_timers rows row opened =
    let none : timers_of_row row ≡ [] = rw opened refl in
    flat_map-append timers_of_row rows (row ∷ []) ∙ rw none (append-nil (idle_timers_of rows))

-- ---- the timers of routes in a scope, one by one

module _ (chunk : ChunkId) (scope : Scope) where
  abbrev pub routes_in : List Route → List Timer
  routes_in rs = filter (λ t. is_in_scope scope t.output) (idle_timers chunk rs)

-- ---- which timers are among others

among_filter : (p : Timer → Bool) (ts : List Timer) (z : Timer) → is_among (filter p ts) z ≡ (p z && is_among ts z)
among_filter p ts z = any-filter_same (eq_by_cmp by_time z) p (p z) (λ t is. ap p (sym (tells_apart time_exact z t is))) ts

among_itself : (z : Timer) → eq_by_cmp by_time z z ≡ true
among_itself z = grind (arith, nat_tests)

among_member : (ts : List Timer) (z : Timer) → Contains ts z → is_among ts z ≡ true
among_member [] z within = absurd (not_of_none z within)
among_member (t ∷ ts) z within = by (member_cases t ts z within) (among_member ts z)
  where
    by : (t ≡ z) ⊎ Contains ts z → (Contains ts z → is_among ts z ≡ true) → (eq_by_cmp by_time z t || is_among ts z) ≡ true
    by (inl same) rest = or_left (eq_by_cmp by_time z t) (is_among ts z) (subst (λ (x : Timer). eq_by_cmp by_time z x ≡ true) (sym same) (among_itself z))
    by (inr behind) rest = or_right (eq_by_cmp by_time z t) (is_among ts z) (rest behind)

member_among : (ts : List Timer) (z : Timer) → is_among ts z ≡ true → Contains ts z
member_among ts z is = Contains-from_any (tells_apart time_exact) z ts is

-- ---- the first timer that passes a test

pub first_same : (p q : Timer → Bool) (found : Option Timer) → ((t : Timer) → p t ≡ q t) → IsFirstThat p found → IsFirstThat q found
first_same p q None same first = λ z. sym (same z) ∙ first z
first_same p q (Some t) same first = (sym (same t) ∙ first.0, λ z is. first.1 z (same z ∙ is))

pub first_listed : (p : Timer → Bool) (ts : List Timer) (found : Option Timer) → IsFirstThat (λ t. is_among ts t && p t) found → MatchOption found (filter p ts ≡ []) (IsFirst (filter p ts))
first_listed p ts None first = none (filter p ts) (λ z within.
    let is = filter_member p ts z within in
    let both : (is_among ts z && p z) ≡ true = and_from (is_among ts z) (p z) (among_member ts z is.0) is.1 in
    let is_not : true ≡ false = sym both ∙ first z in
    absurd (cc is_not))
  where
    none : (us : List Timer) → ((z : Timer) → Contains us z → ⊥) → us ≡ []
    none [] never = refl
    none (u ∷ us) never = absurd (never u (member_here u us))
first_listed p ts (Some t) first =
    let is = and_parts (is_among ts t) (p t) first.0 in
    record {
      member = member_filter p ts t (member_among ts t is.0) is.1;
      none_before = λ z within.
          let other = filter_member p ts z within in
          first.1 z (and_from (is_among ts z) (p z) (among_member ts z other.0) other.1);
    }

-- the earlier of two
not_before_later : (a b : Timer) → is_before a b ≡ true → is_before b a ≡ false
not_before_later a b before = grind (arith, nat_tests)

pub first_of_both : (p q : Timer → Bool) (found : Option Timer) (b : Timer) → IsFirstThat p found → IsFirstThat q (Some b) → IsFirstThat (λ t. p t || q t) (Some (earlier found b))
first_of_both p q None b first second = (or_right (p b) (q b) second.0, λ z is. by z (or_cases (p z) (q z) is))
  where
    by : (z : Timer) → (p z ≡ true) ⊎ (q z ≡ true) → is_before z b ≡ false
    by z (inl is) = let no_one : true ≡ false = sym is ∙ first z in absurd (cc no_one)
    by z (inr is) = second.1 z is
first_of_both p q (Some a) b first second = step (is_before b a) refl
  where
    earlier_b : is_before b a ≡ true → (z : Timer) → (p z ≡ true) ⊎ (q z ≡ true) → is_before z b ≡ false
    earlier_b less z (inl is) = not_before_through b a z (not_before_later b a less) (first.1 z is)
    earlier_b less z (inr is) = second.1 z is

    earlier_a : is_before b a ≡ false → (z : Timer) → (p z ≡ true) ⊎ (q z ≡ true) → is_before z a ≡ false
    earlier_a more z (inl is) = first.1 z is
    earlier_a more z (inr is) = not_before_through a b z more (second.1 z is)

    step : (test : Bool) → is_before b a ≡ test → IsFirstThat (λ t. p t || q t) (Some (if test then b else a))
    step true less = (or_right (p b) (q b) second.0, λ z is. earlier_b less z (or_cases (p z) (q z) is))
    step false more = (or_left (p a) (q a) first.0, λ z is. earlier_a more z (or_cases (p z) (q z) is))

-- no timer is to an output of an empty mask
pub none_to_none : (now : ℕ) (after : Option Timer) (ts : List Timer) → filter (is_next_to now 0 after) ts ≡ []
none_to_none now after [] = refl
none_to_none now after (t ∷ ts) = rw (bit_at-zero t.output.0) (elim (cases_Bool (is_next now after t)) [ inl is ↦ rw is (none_to_none now after ts) | inr is ↦ rw is (none_to_none now after ts) ])

-- a timer is inside a scope or outside, and among some timers in either case
pub outside_left : (chunk : ChunkId) (scope : Scope) (ts us : List Timer) (z : Timer) → filter (is_inside chunk scope) ts ≡ us → (not (is_among us z) && is_among ts z) ≡ is_among (timers_outside chunk scope ts) z
outside_left chunk scope ts us z own =
    let inside : is_among us z ≡ (is_inside chunk scope z && is_among ts z) = ap (λ (vs : List Timer). is_among vs z) (sym own) ∙ among_filter (is_inside chunk scope) ts z in
    rw (inside, among_filter (λ (t : Timer). not (is_inside chunk scope t)) ts z) (by (is_inside chunk scope z) (is_among ts z))
  where
    by : (a b : Bool) → (not (a && b) && b) ≡ (not a && b)
    by true true = refl
    by true false = refl
    by false true = refl
    by false false = refl

pub inside_back : (chunk : ChunkId) (scope : Scope) (ts us : List Timer) (z : Timer) → filter (is_inside chunk scope) ts ≡ us → (is_among us z || is_among (timers_outside chunk scope ts) z) ≡ is_among ts z
inside_back chunk scope ts us z own =
    let inside : is_among us z ≡ (is_inside chunk scope z && is_among ts z) = ap (λ (vs : List Timer). is_among vs z) (sym own) ∙ among_filter (is_inside chunk scope) ts z in
    rw (inside, among_filter (λ (t : Timer). not (is_inside chunk scope t)) ts z) (by (is_inside chunk scope z) (is_among ts z))
  where
    by : (a b : Bool) → ((a && b) || (not a && b)) ≡ b
    by true true = refl
    by true false = refl
    by false true = refl
    by false false = refl

-- ---- an index when a timer comes or goes

pub comes : (k : DueKey) (t z : Timer) (old : Bool) → k ≡ key_of t → cond (is_eq (by_output k (key_of z))) true old ≡ (eq_by_cmp by_time z t || old)
comes k t z old is = rw (is, same_key t z) (by (eq_by_cmp by_time z t))
  where
    by : (a : Bool) → cond a true old ≡ (a || old)
    by true = refl
    by false = refl

pub goes : (k : DueKey) (t z : Timer) (old : Bool) → k ≡ key_of t → cond (is_eq (by_output k (key_of z))) false old ≡ (not (eq_by_cmp by_time z t) && old)
goes k t z old is = rw (is, same_key t z) (by (eq_by_cmp by_time z t))
  where
    by : (a : Bool) → cond a false old ≡ (not a && old)
    by true = refl
    by false = refl

pub slot_timers : (place : Slot) (row : Row) → place.row ≡ Some row → timers_in scopes.All row ≡ timers_of_slot place
slot_timers place row is = rw is (all_kept (timers_of_row row) ∙ sym (append-nil (timers_of_row row)))

-- the same timers, if there is an index
pub same_index : (ts us : List Timer) (index : Option DueIndex) → ((z : Timer) → is_among ts z ≡ is_among us z) → IsIndexIfAny ts index → IsIndexIfAny us index
same_index ts us None same is = tt
same_index ts us (Some index) same is = λ z. is z ∙ same z

pub when_ok : {A E : Type 0} (r : Result A E) (P : Type 0) → true ≡ is_ok r → OnOk r P → P
when_ok (Ok x) P is holds = holds
when_ok (Err e) P is holds = absurd (cc is)
