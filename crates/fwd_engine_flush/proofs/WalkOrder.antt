-- A walk that takes the first due route to an output with a free place, then the next one after it, and so on, is the
-- walk of the reference model.
use Rattle.std.proofs.Common.{◌≡◌, ◌⊎◌, inl, inr, ⊎_elim, ℕ, ◌<◌, ◌≤◌, Bool, true, false, cond, List, [], ◌∷◌, map, fold, Option, Some, None, nat_lt, refl, sym, ◌∙◌, ap, subst, arith}
use Rattle.std.specs.Prelude.{◌==◌, ◌&&◌, ◌||◌, ◌+◌, ◌*◌, ◌-◌, ◌^◌, Contains, filter, nat_le, is_some, MatchOption}
use Rattle.std.specs.Int.{bit_at}
use Rattle.std.specs.List.{AllByRecursion, list_any}
use Rattle.std.specs.List.Sorted.{IsStrictlySortedBy}
use Rattle.std.specs.Ordering.{MatchOrdering, nat_cmp, ordering_then, eq_by_cmp, is_eq}
use Rattle.std.specs.declared.cmp.Ordering.{Ordering}
use Rattle.std.specs.declared.cmp.Ordering.TheVariants.{Less, Equal, Greater}
use Rattle.std.proofs.lemmas.Bool.{cases_Bool, leb-true, le-leb, ltb-true, and_parts, eqb-true}
use Rattle.std.proofs.lemmas.Bool.Decides.{nat_tests}
use Rattle.std.proofs.lemmas.Cmp.{ranked, tied_itself}
use Rattle.std.proofs.lemmas.Map.Keys.{sorted_head, sorted_tail}
use Rattle.fwd_outside.specs.Program.{Return, bind}
use Rattle.fwd_retry.specs.declared.timer.Timer.{Timer}
use Rattle.fwd_retry.specs.Timer.{is_before, is_after, is_next, by_time, in_time, IsFirst}
use Rattle.fwd_retry.proofs.Members.{not_of_none, member_here, member_behind, member_cases, filter_member, member_filter}
use Rattle.fwd_table.specs.Routes.{is_in, is_next_to}
use Rattle.fwd_table.specs.Rows.{idle_timers_of}
use Rattle.fwd_table.proofs.DueOrder.{time_total, time_exact, in_time_sorted, any_in_time}
use Rattle.fwd_settings.specs.declared.settings_types.AllSettings.{AllSettings}
use Rattle.fwd_model.specs.Fact.{History, Route}
use Rattle.fwd_model.specs.Trace.{Action}
use Rattle.fwd_model.specs.Clock.{clock}
use Rattle.fwd_model.specs.Routes.{route, same_route, is_resolved, flight, due, rows_of, is_idle}
use Rattle.fwd_model.specs.Dispatch.{route_of, may_start, has_place, fits}
use Rattle.fwd_model.specs.FlushActions.{starts_if_allowed, starts_each, walk}
use Rattle.fwd_engine_flush.specs.FreePlaces.{is_free, IsMaskOfFree}
use Rattle.fwd_engine_flush.proofs.Turns.{IsSameTime, IsSameRoute, IsNotDue, Turned}
use Rattle.fwd_engine_flush.proofs.Waiting.{IsWaiting, waits_of, is_waiting, still_waits}

-- ---- the order of timers, and timers in order

-- a timer that comes before another by its due time, its chunk or its output
abbrev Precedes : Timer → Timer → Type 0
Precedes a b =
    (a.due < b.due) ⊎ ((a.due ≡ b.due) × ((a.chunk.0 < b.chunk.0) ⊎ ((a.chunk.0 ≡ b.chunk.0) × (a.output.0 < b.output.0))))

precedes : (a b : Timer) → by_time a b ≡ Less → Precedes a b
precedes a b less = by (nat_cmp a.due b.due) (ranked a.due b.due (nat_cmp a.due b.due) refl) less
  where
    by_output : (o : Ordering) → MatchOrdering o (a.output.0 < b.output.0) (a.output.0 ≡ b.output.0) (b.output.0 < a.output.0) → o ≡ Less → a.output.0 < b.output.0
    by_output Less is now = is
    by_output Equal is now = absurd (cc now)
    by_output Greater is now = absurd (cc now)

    by_chunk : (o : Ordering) → MatchOrdering o (a.chunk.0 < b.chunk.0) (a.chunk.0 ≡ b.chunk.0) (b.chunk.0 < a.chunk.0) → ordering_then o (nat_cmp a.output.0 b.output.0) ≡ Less
        → (a.chunk.0 < b.chunk.0) ⊎ ((a.chunk.0 ≡ b.chunk.0) × (a.output.0 < b.output.0))
    by_chunk Less is now = inl is
    by_chunk Equal is now = inr (is, by_output (nat_cmp a.output.0 b.output.0) (ranked a.output.0 b.output.0 (nat_cmp a.output.0 b.output.0) refl) now)
    by_chunk Greater is now = absurd (cc now)

    by : (o : Ordering) → MatchOrdering o (a.due < b.due) (a.due ≡ b.due) (b.due < a.due) → ordering_then o (ordering_then (nat_cmp a.chunk.0 b.chunk.0) (nat_cmp a.output.0 b.output.0)) ≡ Less → Precedes a b
    by Less is now = inl is
    by Equal is now = inr (is, by_chunk (nat_cmp a.chunk.0 b.chunk.0) (ranked a.chunk.0 b.chunk.0 (nat_cmp a.chunk.0 b.chunk.0) refl) now)
    by Greater is now = absurd (cc now)

before_less : (a b : Timer) → by_time a b ≡ Less → is_before a b ≡ true
before_less a b less = by (precedes a b less)
  where
    by : Precedes a b → is_before a b ≡ true
    by (inl due) = grind (arith, nat_tests, due)
    by (inr (due, inl chunk)) = grind (arith, nat_tests, due, chunk)
    by (inr (due, inr (chunk, output))) = grind (arith, nat_tests, due, chunk, output)

not_itself : (a : Timer) → is_before a a ≡ false
not_itself a = grind (arith, nat_tests)

not_back : (a b : Timer) → is_before a b ≡ true → is_before b a ≡ false
not_back a b before = grind (arith, nat_tests, before)

through : (a b c : Timer) → is_before a b ≡ true → is_before b c ≡ true → is_before a c ≡ true
through a b c first second = grind (arith, nat_tests, first, second)

after_through : (after : Option Timer) (a b : Timer) → is_after after a ≡ true → is_before a b ≡ true → is_after after b ≡ true
after_through None a b first second = refl
after_through (Some before) a b first second = through before a b first second

or_cases : (a b : Bool) → (a || b) ≡ true → (a ≡ true) ⊎ (b ≡ true)
or_cases true b is = inl refl
or_cases false b is = inr is

preceding : (a b : Timer) → is_before a b ≡ true → Precedes a b
preceding a b before = by (or_cases (nat_lt a.due b.due) _ before)
  where
    by_chunk : (nat_lt a.chunk.0 b.chunk.0 ≡ true) ⊎ ((a.chunk.0 == b.chunk.0 && nat_lt a.output.0 b.output.0) ≡ true) → (a.chunk.0 < b.chunk.0) ⊎ ((a.chunk.0 ≡ b.chunk.0) × (a.output.0 < b.output.0))
    by_chunk (inl less) = inl (ltb-true a.chunk.0 b.chunk.0 less)
    by_chunk (inr both) = let parts = and_parts (a.chunk.0 == b.chunk.0) (nat_lt a.output.0 b.output.0) both in inr (eqb-true a.chunk.0 b.chunk.0 parts.0, ltb-true a.output.0 b.output.0 parts.1)

    by : (nat_lt a.due b.due ≡ true) ⊎ ((a.due == b.due && (nat_lt a.chunk.0 b.chunk.0 || (a.chunk.0 == b.chunk.0 && nat_lt a.output.0 b.output.0))) ≡ true) → Precedes a b
    by (inl less) = inl (ltb-true a.due b.due less)
    by (inr both) = let parts = and_parts (a.due == b.due) (nat_lt a.chunk.0 b.chunk.0 || (a.chunk.0 == b.chunk.0 && nat_lt a.output.0 b.output.0)) both in inr (eqb-true a.due b.due parts.0, by_chunk (or_cases (nat_lt a.chunk.0 b.chunk.0) _ parts.1))

-- how many timers may come after one, if their numbers fit their types
abbrev pub timers_behind : Option Timer → ℕ
timers_behind None = 2 ^ 170
timers_behind (Some t) = (2 ^ 64 - t.due) * 2 ^ 100 + ((2 ^ 64 - t.chunk.0) * 2 ^ 33 + (2 ^ 32 - t.output.0))

pub fewer_behind : (after : Option Timer) (t : Timer) → (t.due < 2 ^ 64) × (t.chunk.0 < 2 ^ 64) × (t.output.0 < 2 ^ 32) → is_after after t ≡ true → timers_behind (Some t) < timers_behind after
fewer_behind None t fits is = omega arith
fewer_behind (Some a) t fits is = by (preceding a t is)
  where
    by : Precedes a t → timers_behind (Some t) < timers_behind (Some a)
    by (inl due) = let bound = fits.0 in omega (arith, due, bound)
    by (inr (due, inl chunk)) = let bound = fits.1 in omega (arith, due, chunk, bound)
    by (inr (due, inr (chunk, output))) = let bound = fits.2 in omega (arith, due, chunk, output, bound)

-- what the next timer is
pub is_first : (next : Option Timer) (t : Timer) (ts : List Timer) → next ≡ Some t → MatchOption next (ts ≡ []) (IsFirst ts) → IsFirst ts t
is_first next t ts is answer = subst (λ (o : Option Timer). MatchOption o (ts ≡ []) (IsFirst ts)) is answer

pub is_none : (next : Option Timer) (ts : List Timer) → ((t : Timer) → next ≡ Some t → ⊥) → MatchOption next (ts ≡ []) (IsFirst ts) → ts ≡ []
is_none None ts none answer = answer
is_none (Some t) ts none answer = absurd (none t refl)

-- timers of one route with one due time
same_timers : (a b : Timer) → a.due ≡ b.due → same_route (route_of a) (route_of b) ≡ true → is_before a b ≡ false
same_timers a b due same = grind (arith, nat_tests, due, same)

is_route : (r x : Route) → same_route r x ≡ true → r ≡ x
is_route r x same =
    let parts = and_parts (r.chunk == x.chunk) (r.output == x.output) same in
    let chunk = eqb-true r.chunk x.chunk parts.0 in
    let output = eqb-true r.output x.output parts.1 in
    (λ i. record { chunk = chunk i; output = output i })

any_has : (z : Timer) (ts : List Timer) → Contains ts z → list_any (eq_by_cmp by_time z) ts ≡ true
any_has z [] has = absurd (not_of_none z has)
any_has z (t ∷ ts) has = by (member_cases t ts z has) (any_has z ts)
  where
    or_true : (b : Bool) → (b || true) ≡ true
    or_true true = refl
    or_true false = refl

    by : (t ≡ z) ⊎ Contains ts z → (Contains ts z → list_any (eq_by_cmp by_time z) ts ≡ true) → (is_eq (by_time z t) || list_any (eq_by_cmp by_time z) ts) ≡ true
    by (inl same) more = rw (same, tied_itself time_total z) refl
    by (inr later) more = rw (more later) (or_true (is_eq (by_time z t)))

has_any : (z : Timer) (ts : List Timer) → list_any (eq_by_cmp by_time z) ts ≡ true → Contains ts z
has_any z [] any = absurd (cc any)
has_any z (t ∷ ts) any = by (by_time z t) refl (has_any z ts) any
  where
    by : (r : Ordering) → by_time z t ≡ r → (list_any (eq_by_cmp by_time z) ts ≡ true → Contains ts z) → (is_eq r || list_any (eq_by_cmp by_time z) ts) ≡ true → Contains (t ∷ ts) z
    by Less is more any = member_behind t ts z (more any)
    by Equal is more any = subst (λ (x : Timer). Contains (t ∷ ts) x) (sym (time_exact z t is)) (member_here t ts)
    by Greater is more any = member_behind t ts z (more any)

in_order : (z : Timer) (ts : List Timer) → Contains ts z → Contains (in_time ts) z
in_order z ts has = has_any z (in_time ts) (any_in_time z ts ∙ any_has z ts has)

of_order : (z : Timer) (ts : List Timer) → Contains (in_time ts) z → Contains ts z
of_order z ts has = has_any z ts (sym (any_in_time z ts) ∙ any_has z (in_time ts) has)

-- ---- routes that can't start are skipped

module _ (s : AllSettings) (h : History) where
  -- what is left of a walk over these timers
  abbrev pub left_of : List Timer → Option Timer → Action History
  left_of ts after = starts_each s (map route_of (filter (is_after after) ts)) h

  skips_one : (t : Timer) (rest : List Timer) → may_start s h (route_of t) ≡ false → starts_each s (route_of t ∷ map route_of rest) h ≡ starts_each s (map route_of rest) h
  unfolding starts_if_allowed
  skips_one t rest isnt = rw isnt refl

  none_start : (after : Option Timer) (ts : List Timer) → ((t : Timer) → Contains ts t → is_after after t ≡ true → may_start s h (route_of t) ≡ false) → left_of ts after ≡ Return h
  none_start after [] none = refl
  none_start after (t ∷ ts) none = by (is_after after t) refl (none_start after ts (λ u has. none u (member_behind t ts u has)))
    where
      by : (b : Bool) → is_after after t ≡ b → left_of ts after ≡ Return h → starts_each s (map route_of (cond b (t ∷ filter (is_after after) ts) (filter (is_after after) ts))) h ≡ Return h
      by true is rest = skips_one t (filter (is_after after) ts) (none t (member_here t ts) is) ∙ rest
      by false is rest = rest

  -- the first one that may start has its turn
  abbrev TakesTurn : List Timer → Option Timer → Timer → Type 0
  TakesTurn ts after t = left_of ts after ≡ bind (starts_if_allowed s (route_of t) h) (starts_each s (map route_of (filter (is_after (Some t)) ts)))

  all_after : (after : Option Timer) (t : Timer) (ts : List Timer) → is_after after t ≡ true → AllByRecursion (λ u. by_time t u ≡ Less) ts → filter (is_after after) ts ≡ ts
  all_after after t [] is all = refl
  all_after after t (u ∷ ts) is all =
      let passes = after_through after t u is (before_less t u all.0) in
      rw (passes, all_after after t ts is all.1) refl

  all_behind : (t : Timer) (ts : List Timer) → AllByRecursion (λ u. by_time t u ≡ Less) ts → filter (is_after (Some t)) ts ≡ ts
  all_behind t [] all = refl
  all_behind t (u ∷ ts) all = rw (before_less t u all.0, all_behind t ts all.1) refl

  one_behind : (t u : Timer) (ts : List Timer) → AllByRecursion (λ v. by_time t v ≡ Less) ts → Contains ts u → is_before t u ≡ true
  one_behind t u [] all has = absurd (not_of_none u has)
  one_behind t u (v ∷ ts) all has = by (member_cases v ts u has) (one_behind t u ts all.1)
    where
      by : (v ≡ u) ⊎ Contains ts u → (Contains ts u → is_before t u ≡ true) → is_before t u ≡ true
      by (inl same) more = subst (λ (w : Timer). is_before t w ≡ true) same (before_less t v all.0)
      by (inr later) more = more later

  abbrev MayNotBefore : List Timer → Option Timer → Timer → Type 0
  MayNotBefore ts after t = (u : Timer) → Contains ts u → is_after after u ≡ true → is_before u t ≡ true → may_start s h (route_of u) ≡ false

  first_turn : (after : Option Timer) (t : Timer) (ts : List Timer) → IsStrictlySortedBy by_time ts → Contains ts t → is_after after t ≡ true → MayNotBefore ts after t → TakesTurn ts after t
  first_turn after t [] sorted has is none = absurd (not_of_none t has)
  first_turn after t (u ∷ ts) sorted has is none =
      by (member_cases u ts t has) (first_turn after t ts (sorted_tail by_time u ts sorted))
    where
      head : AllByRecursion (λ v. by_time u v ≡ Less) ts
      head = sorted_head by_time u ts sorted

      now : is_after after u ≡ true → TakesTurn (u ∷ ts) after u
      now is_u = rw (is_u, not_itself u, all_after after u ts is_u head, all_behind u ts head) refl

      passed : (b : Bool) → is_after after u ≡ b → Contains ts t → is_before u t ≡ true → TakesTurn ts after t
          → starts_each s (map route_of (cond b (u ∷ filter (is_after after) ts) (filter (is_after after) ts))) h ≡ bind (starts_if_allowed s (route_of t) h) (starts_each s (map route_of (filter (is_after (Some t)) ts)))
      passed true is_u later before more = skips_one u (filter (is_after after) ts) (none u (member_here u ts) is_u before) ∙ more
      passed false is_u later before more = more

      by : (u ≡ t) ⊎ Contains ts t → (Contains ts t → is_after after t ≡ true → MayNotBefore ts after t → TakesTurn ts after t) → TakesTurn (u ∷ ts) after t
      by (inl same) more = subst (TakesTurn (u ∷ ts) after) same (now (ap (is_after after) same ∙ is))
      by (inr later) more =
          let before = one_behind u t ts head later in
          rw (not_back u t before) (passed (is_after after u) refl later before (more later is (λ v has. none v (member_behind u ts v has))))

-- ---- the walk

module _ (s : AllSettings) (begin : History) where
  -- the timers that are due as the walk begins, and these in order
  abbrev pub due_timers : List Timer
  due_timers = filter (λ (t : Timer). nat_le t.due (clock begin)) (idle_timers_of (rows_of s begin))

  abbrev pub due_first : List Timer
  due_first = in_time due_timers

  -- the walk has come to a timer, if to any: no other route has become due, and those after it are as they were
  abbrev pub IsPast : Option Timer → History → Type 0
  IsPast after h =
      IsSameTime begin h × ((x : Route) → IsSameRoute s begin h x ⊎ IsNotDue s h x)
      × ((t : Timer) → Contains due_first t → is_after after t ≡ true → IsSameRoute s begin h (route_of t))

  -- what is left of it
  abbrev pub left : Option Timer → History → Action History
  left after h = left_of s h due_first after

  pub at_first : IsPast None begin
  at_first = ((refl, refl, λ chunk. refl), (λ x. inl (refl, refl, refl)), λ t has is. (refl, refl, refl))

  all_left : (ts : List Timer) → filter (is_after None) ts ≡ ts
  all_left [] = refl
  all_left (t ∷ ts) = ap (λ (us : List Timer). t ∷ us) (all_left ts)

  pub walk_is : walk s begin ≡ left None begin
  unfolding walk
  walk_is = ap (λ (ts : List Timer). starts_each s (map route_of ts) begin) (sym (all_left due_first))

  due_waits : (t : Timer) → Contains due_first t → IsWaiting s begin t × (t.due ≤ clock begin)
  due_waits t has =
      let kept = filter_member (λ (u : Timer). nat_le u.due (clock begin)) (idle_timers_of (rows_of s begin)) t (of_order t _ has) in
      (waits_of s begin t kept.0, leb-true t.due (clock begin) kept.1)

  -- a timer that is due now was due at the beginning
  was_due : (after : Option Timer) (h : History) (t : Timer) → IsPast after h → IsWaiting s h t → t.due ≤ clock h → Contains due_first t
  was_due after h t past waits now = by (past.1 (route_of t))
    where
      by : IsSameRoute s begin h (route_of t) ⊎ IsNotDue s h (route_of t) → Contains due_first t
      by (inl same) =
          let back = still_waits s h begin t (sym past.0.0, sym past.0.1, λ chunk. sym (past.0.2 chunk)) (sym same.0, sym same.1, sym same.2) waits in
          let same_clock : clock h ≡ clock begin = past.0.1 in
          in_order t _ (member_filter (λ (u : Timer). nat_le u.due (clock begin)) (idle_timers_of (rows_of s begin)) t (is_waiting s begin t back) (le-leb t.due (clock begin) (omega (arith, now, same_clock))))
      by (inr (inl flies)) = absurd (cc (sym flies ∙ waits.idle))
      by (inr (inr (inl resolved))) = absurd (cc (sym resolved ∙ waits.pending))
      by (inr (inr (inr later))) = let time : t.due ≡ due s h (route_of t) = waits.time in absurd (omega (arith, later, time, now))

  module _ (mask : ℕ) (after : Option Timer) (h : History) (free : IsMaskOfFree s h mask) (past : IsPast after h) where
    -- the timers of which the next one is the first
    abbrev pub candidates : List Timer
    candidates = filter (is_next_to (clock h) mask after) (idle_timers_of (rows_of s h))

    -- a route that may start is one of them
    candidate : (t : Timer) → Contains due_first t → is_after after t ≡ true → may_start s h (route_of t) ≡ true → Contains candidates t
    candidate t has is may =
        let first = due_waits t has in
        let same_clock : clock h ≡ clock begin = past.0.1 in
        let place : is_free s h t.output.0 ≡ true = (and_parts (has_place s h (route_of t)) (fits s h (route_of t)) (and_parts (is_idle s h (route_of t)) _ may).1).0 in
        let within : is_in mask t ≡ true = free t.output.0 ∙ place in
        member_filter (is_next_to (clock h) mask after) (idle_timers_of (rows_of s h)) t
        (is_waiting s h t (still_waits s begin h t past.0 (past.2 t has is) first.0))
        (rw (le-leb t.due (clock h) (omega (arith, first.1, same_clock)), is, within) refl)

    may_not : (t : Timer) → Contains due_first t → is_after after t ≡ true → (Contains candidates t → ⊥) → may_start s h (route_of t) ≡ false
    may_not t has is none = elim (cases_Bool (may_start s h (route_of t))) [ inl may ↦ absurd (none (candidate t has is may)) | inr isnt ↦ isnt ]

    -- with no next one the walk is over
    pub over : candidates ≡ [] → left after h ≡ Return h
    over none = none_start s h after due_first (λ t has is. may_not t has is (λ (among : Contains candidates t). not_of_none t (subst (λ (ts : List Timer). Contains ts t) none among)))

    module _ (t : Timer) (first : IsFirst candidates t) where
      kept : Contains (idle_timers_of (rows_of s h)) t × (is_next_to (clock h) mask after t ≡ true)
      kept = filter_member (is_next_to (clock h) mask after) (idle_timers_of (rows_of s h)) t first.member

      is_due : (nat_le t.due (clock h) ≡ true) × (is_after after t ≡ true)
      is_due = and_parts (nat_le t.due (clock h)) (is_after after t) (and_parts (is_next (clock h) after t) (is_in mask t) kept.1).0

      has : Contains due_first t
      has = was_due after h t past (waits_of s h t kept.0) (leb-true t.due (clock h) is_due.0)

      -- the next one has its turn
      pub next_turn : left after h ≡ bind (starts_if_allowed s (route_of t) h) (left (Some t))
      next_turn =
          first_turn s h after t due_first (in_time_sorted due_timers) has is_due.1
          (λ u among is before. may_not u among is (λ (candidate : Contains candidates u). absurd (cc (sym before ∙ first.none_before u candidate))))

      -- and then the walk has come to it
      pub past_turn : (base : 1 ≤ s.service.base) (now : History) → Turned s base (route_of t) h now → IsPast (Some t) now
      past_turn base now turned = (time, (λ x. route_now x (cases_Bool (same_route (route_of t) x))), later)
        where
          time : IsSameTime begin now
          time = (turned.0.0.0 ∙ past.0.0, turned.0.0.1 ∙ past.0.1, λ chunk. turned.0.0.2 chunk ∙ past.0.2 chunk)

          stays : (x : Route) → IsSameRoute s h now x → IsSameRoute s begin h x ⊎ IsNotDue s h x → IsSameRoute s begin now x ⊎ IsNotDue s now x
          stays x same (inl before) = inl (same.0 ∙ before.0, same.1 ∙ before.1, same.2 ∙ before.2)
          stays x same (inr (inl flies)) = inr (inl (ap is_some same.1 ∙ flies))
          stays x same (inr (inr (inl resolved))) = inr (inr (inl (same.0 ∙ resolved)))
          stays x same (inr (inr (inr due_later))) = let clocks : clock now ≡ clock h = turned.0.0.1 in let dues : due s now x ≡ due s h x = same.2 in inr (inr (inr (omega (arith, due_later, clocks, dues))))

          own : IsSameRoute s h now (route_of t) ⊎ IsNotDue s now (route_of t) → IsSameRoute s begin now (route_of t) ⊎ IsNotDue s now (route_of t)
          own (inl same) = stays (route_of t) same (past.1 (route_of t))
          own (inr not_due) = inr not_due

          route_now : (x : Route) → (same_route (route_of t) x ≡ true) ⊎ (same_route (route_of t) x ≡ false) → IsSameRoute s begin now x ⊎ IsNotDue s now x
          route_now x (inl same) =
              subst (λ (y : Route). IsSameRoute s begin now y ⊎ IsNotDue s now y) (is_route (route_of t) x same) (own turned.1)
          route_now x (inr other) = stays x (turned.0.1 x other) (past.1 x)

          later : (u : Timer) → Contains due_first u → is_after (Some t) u ≡ true → IsSameRoute s begin now (route_of u)
          later u among is =
              let before = past.2 u among (after_through after t u is_due.1 is) in
              let same = turned.0.1 (route_of u) (apart u among is) in
              (same.0 ∙ before.0, same.1 ∙ before.1, same.2 ∙ before.2)
            where
              apart : (u : Timer) → Contains due_first u → is_before t u ≡ true → same_route (route_of t) (route_of u) ≡ false
              apart u among before = elim (cases_Bool (same_route (route_of t) (route_of u))) [
                | inl same ↦
                    let one = (due_waits t has).0.time in
                    let two = (due_waits u among).0.time in
                    absurd (cc (sym before ∙ same_timers t u (one ∙ (ap (due s begin) (is_route (route_of t) (route_of u) same) ∙ sym two)) same))
                | inr other ↦ other
              ]
