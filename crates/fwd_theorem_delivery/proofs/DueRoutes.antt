-- A dispatch begins due routes in their order.
use Rattle.std.proofs.Common.{◌≡◌, ◌⊎◌, inl, inr, ⊎_elim, ℕ, ◌+◌, ◌<◌, ◌≤◌, Bool, true, false, cond, List, [], ◌∷◌, ◌++◌, append_assoc, map, filter, length, not, fold, refl, sym, ◌∙◌, ap, subst, arith}
use Rattle.std.specs.Prelude.{Contains, nat_le}
use Rattle.std.specs.List.{All, AllByRecursion}
use Rattle.std.specs.List.Sorted.{IsStrictlySortedBy}
use Rattle.std.specs.BTreeSet.{insert_key}
use Rattle.std.specs.Cmp.{IsTotalOrder}
use Rattle.std.specs.Ordering.{MatchOrdering, nat_cmp, ordering_then}
use Rattle.std.specs.declared.cmp.Ordering.{Ordering}
use Rattle.std.specs.declared.cmp.Ordering.TheVariants.{Less, Equal, Greater}
use Rattle.std.proofs.lemmas.Bool.{leb-true}
use Rattle.std.proofs.lemmas.List.Elements.{All-contains, All-nil, Contains-append_right}
use Rattle.std.proofs.lemmas.List.{length-append}
use Rattle.std.proofs.lemmas.Cmp.{ranked, then_total, on_total, nat_cmp_total}
use Rattle.std.proofs.lemmas.Map.Views.{All-insert_key}
use Rattle.std.proofs.lemmas.Map.Keys.{sorted_head, sorted_tail}
use Rattle.fwd_backlog.proofs.Names.{sorted_all}
use Rattle.fwd_outside.specs.Program.{Return, Execution}
use Rattle.fwd_retry.specs.declared.timer.Timer.{Timer}
use Rattle.fwd_table.specs.Row.{Row}
use Rattle.fwd_table.specs.Route.{Route as Owed}
use Rattle.fwd_table.specs.Routes.{timer_of, idle_timers}
use Rattle.fwd_table.specs.Rows.{timers_of_row, idle_timers_of}
use Rattle.fwd_settings.specs.declared.settings_types.AllSettings.{AllSettings}
use Rattle.fwd_model.specs.Fact.{History, Route, FlushStarted, OnRoute, IoFailed}
use Rattle.fwd_model.specs.Trace.{Call, TraceEntry, Note, history_after, history_after_call}
use Rattle.fwd_model.specs.Clock.{clock}
use Rattle.fwd_model.specs.Chunks.{ChunkInfo, chunks_of}
use Rattle.fwd_model.specs.Routes.{route, due, table_route, owed, is_owed, row_of, rows_of}
use Rattle.fwd_model.specs.Dispatch.{by_time, in_time, route_of, due_routes}
use Rattle.fwd_model.specs.FlushActions.{walk}
use Rattle.fwd_theorem_trace.specs.Dispatch.{begun_by, flushes_begun, IsTurn, MayNot, Starts, InVain, NotHeld, IsDispatched}
use Rattle.fwd_theorem_trace.proofs.Members.{here, deeper, either, from_filter, from_map, from_flat_map}
use Rattle.fwd_theorem_trace.proofs.Turns.{walk_is_walked}
use Rattle.fwd_theorem_delivery.specs.DueOrder.{IsLower, IsDueBefore}

time_total : IsTotalOrder by_time
time_total = then_total (on_total (λ (t : Timer). t.due) nat_cmp_total) (then_total (on_total (λ (t : Timer). t.chunk.0) nat_cmp_total) (on_total (λ (t : Timer). t.output.0) nat_cmp_total))

-- ---- the timers are those of their routes

module _ (s : AllSettings) (h : History) where
  pub record IsTimely (t : Timer) : Type 0 where
    pub is : t.due ≡ due s h (route_of t)
    pub now : t.due ≤ clock h

  timer_is : (t : Timer) → Contains (idle_timers_of (rows_of s h)) t → t.due ≡ due s h (route_of t)
  timer_is t has =
      let found = from_flat_map timers_of_row (rows_of s h) t has in
      let made = from_map (row_of s h) (filter (is_owed s h) (chunks_of h)) found.0 found.1 in
      by found.0 made.0 made.2 found.2
    where
      by : (row : Row) (c : ChunkInfo) → row_of s h c ≡ row → Contains (timers_of_row row) t → t.due ≡ due s h (route_of t)
      by row c is has = shut_or (row_of s h c).shut (subst (λ (x : Row). Contains (timers_of_row x) t) (sym is) has)
        where
          shut_or : (b : Bool) → Contains (cond b (idle_timers (row_of s h c).chunk (row_of s h c).routes) []) t → t.due ≡ due s h (route_of t)
          shut_or false none = absurd (omega (arith, none.1))
          shut_or true some =
              let timed = from_map (timer_of (record { 0 = c.number })) (filter (λ (r : Owed). not r.flying) (row_of s h c).routes) t some in
              let kept = from_filter (λ (r : Owed). not r.flying) (row_of s h c).routes timed.0 timed.1 in
              let stands = from_map (table_route s h c.number) (owed s h c) timed.0 kept.0 in
              subst (λ (x : Timer). x.due ≡ due s h (route_of x)) timed.2
              (subst (λ (x : Owed). x.due ≡ due s h (route c.number x.output.0)) stands.2 refl)

  timely : (t : Timer) → Contains (filter (λ (t : Timer). nat_le t.due (clock h)) (idle_timers_of (rows_of s h))) t → IsTimely t
  timely t has =
      let kept = from_filter (λ (t : Timer). nat_le t.due (clock h)) (idle_timers_of (rows_of s h)) t has in
      record { is = timer_is t kept.0; now = leb-true t.due (clock h) kept.1 }

  -- ---- they are in order, and so are their routes

  before_as : (a b : Timer) → by_time a b ≡ Less → IsTimely a → IsTimely b → IsDueBefore s h (route_of a) (route_of b)
  before_as a b less first second =
      by (nat_cmp a.due b.due) (ranked a.due b.due (nat_cmp a.due b.due) refl) less
    where
      dues : due s h (route_of a) ≡ a.due
      dues = sym first.is

      late : due s h (route_of b) ≡ b.due
      late = sym second.is

      by_output : (o : Ordering) → MatchOrdering o (a.output.0 < b.output.0) (a.output.0 ≡ b.output.0) (b.output.0 < a.output.0) → o ≡ Less → a.output.0 < b.output.0
      by_output Less is now = is
      by_output Equal is now = absurd (cc now)
      by_output Greater is now = absurd (cc now)

      by_chunk : (o : Ordering) → MatchOrdering o (a.chunk.0 < b.chunk.0) (a.chunk.0 ≡ b.chunk.0) (b.chunk.0 < a.chunk.0) → ordering_then o (nat_cmp a.output.0 b.output.0) ≡ Less → IsLower (route_of a) (route_of b)
      by_chunk Less is now = inl is
      by_chunk Equal is now = inr (is, by_output (nat_cmp a.output.0 b.output.0) (ranked a.output.0 b.output.0 (nat_cmp a.output.0 b.output.0) refl) now)
      by_chunk Greater is now = absurd (cc now)

      by : (o : Ordering) → MatchOrdering o (a.due < b.due) (a.due ≡ b.due) (b.due < a.due) → ordering_then o (ordering_then (nat_cmp a.chunk.0 b.chunk.0) (nat_cmp a.output.0 b.output.0)) ≡ Less → IsDueBefore s h (route_of a) (route_of b)
      by Less is now = inl (omega (arith, is, dues, late))
      by Equal is now = inr (dues ∙ (is ∙ sym late), by_chunk (nat_cmp a.chunk.0 b.chunk.0) (ranked a.chunk.0 b.chunk.0 (nat_cmp a.chunk.0 b.chunk.0) refl) now)
      by Greater is now = absurd (cc now)

  -- each precedes all after it
  abbrev pub InOrder : List Route → Type 0
  InOrder [] = Unit {0}
  InOrder (q ∷ rs) = ((r : Route) → Contains rs r → IsDueBefore s h q r) × InOrder rs

  behind_one : (a : Timer) (ts : List Timer) → AllByRecursion (λ b. by_time a b ≡ Less) ts → IsTimely a → ((t : Timer) → Contains ts t → IsTimely t) → (r : Route) → Contains (map route_of ts) r → IsDueBefore s h (route_of a) r
  behind_one a [] all first rest r has = absurd (omega (arith, has.1))
  behind_one a (b ∷ ts) all first rest r has =
      ⊎_elim (λ (same : route_of b ≡ r). subst (IsDueBefore s h (route_of a)) same (before_as a b all.0 first (rest b (here b ts))))
      (λ (more : Contains (map route_of ts) r). behind_one a ts all.1 first (λ t at. rest t (deeper b ts t at)) r more) (either (route_of b) (map route_of ts) r has)

  routes_in_order : (ts : List Timer) → IsStrictlySortedBy by_time ts → ((t : Timer) → Contains ts t → IsTimely t) → InOrder (map route_of ts)
  routes_in_order [] sorted all = tt
  routes_in_order (a ∷ ts) sorted all =
      (behind_one a ts (sorted_head by_time a ts sorted) (all a (here a ts)) (λ t at. all t (deeper a ts t at)), routes_in_order ts (sorted_tail by_time a ts sorted) (λ t at. all t (deeper a ts t at)))

  folded : (so_far ts : List Timer) → All IsTimely so_far → ((t : Timer) → Contains ts t → IsTimely t) → All IsTimely (fold (insert_key by_time) so_far ts)
  folded so_far [] first all = first
  folded so_far (t ∷ ts) first all = folded (insert_key by_time so_far t) ts (All-insert_key by_time t IsTimely so_far first (all t (here t ts))) (λ x at. all x (deeper t ts x at))

  in_time_timely : (t : Timer) → Contains (in_time (filter (λ (t : Timer). nat_le t.due (clock h)) (idle_timers_of (rows_of s h)))) t → IsTimely t
  in_time_timely t has =
      let ts : List Timer = filter (λ (t : Timer). nat_le t.due (clock h)) (idle_timers_of (rows_of s h)) in
      All-contains IsTimely (in_time ts) t (folded [] ts (All-nil IsTimely) timely) has

  pub due_in_order : InOrder (due_routes s h)
  due_in_order =
      let ts : List Timer = filter (λ (t : Timer). nat_le t.due (clock h)) (idle_timers_of (rows_of s h)) in
      routes_in_order (in_time ts) (sorted_all by_time time_total ts) in_time_timely

  pub due_by_now : (r : Route) → Contains (due_routes s h) r → due s h r ≤ clock h
  due_by_now r has =
      let found = from_map route_of (in_time (filter (λ (t : Timer). nat_le t.due (clock h)) (idle_timers_of (rows_of s h)))) r has in
      let is = in_time_timely found.0 found.1 in
      subst (λ (x : Route). due s h x ≤ clock h) found.2 (subst (λ (n : ℕ). n ≤ clock h) is.is is.now)

-- ---- the routes begun are some of the due ones, in order

abbrev begun_facts : History → ℕ
begun_facts [] = 0
begun_facts (OnRoute r (FlushStarted events) ∷ h) = begun_facts h + 1
begun_facts (fact ∷ h) = begun_facts h

no_more : (n : ℕ) → n ≡ n + 0
no_more n = omega arith

begun_call : (call : Call) (h : History) → begun_facts (history_after_call call h) ≡ begun_facts h + length (begun_by call)
begun_call (Note (OnRoute r (FlushStarted events))) h = refl
begun_call (Note fact) h = no_more (begun_facts h)
begun_call call h = no_more (begun_facts h)

begun_behind : (es : List TraceEntry) (h : History) → begun_facts (history_after es h) ≡ begun_facts h + length (flushes_begun es)
begun_behind [] h = omega arith
begun_behind (e ∷ es) h =
    let rest = begun_behind es (history_after_call e.call h) in
    let first = begun_call e.call h in
    let both : length (begun_by e.call ++ flushes_begun es) ≡ length (begun_by e.call) + length (flushes_begun es) = length-append (begun_by e.call) (flushes_begun es) in
    omega (arith, rest, first, both)

none_in : (rs : List Route) → length rs ≡ 0 → rs ≡ []
none_in [] is = refl
none_in (r ∷ rs) is = absurd (omega (arith, is))

in_vain : (es : List TraceEntry) (h : History) → (history_after es h ≡ h) ⊎ (history_after es h ≡ IoFailed ∷ h) → flushes_begun es ≡ []
in_vain es h none_begun = none_in (flushes_begun es) (by none_begun)
  where
    by : (history_after es h ≡ h) ⊎ (history_after es h ≡ IoFailed ∷ h) → length (flushes_begun es) ≡ 0
    by (inl is) = let now = begun_behind es h in let same = ap begun_facts is in omega (arith, now, same)
    by (inr is) = let now = begun_behind es h in let same : begun_facts (history_after es h) ≡ begun_facts h = ap begun_facts is in omega (arith, now, same)

begins_both : (one two : List TraceEntry) → flushes_begun (one ++ two) ≡ flushes_begun one ++ flushes_begun two
begins_both [] two = refl
begins_both (e ∷ one) two = ap (λ (l : List Route). begun_by e.call ++ l) (begins_both one two) ∙ sym (append_assoc (begun_by e.call) (flushes_begun one) (flushes_begun two))

-- some of these, in the same order
abbrev SomeOf : List Route → List Route → Type 0
SomeOf qs [] = qs ≡ []
SomeOf qs (r ∷ rs) = SomeOf qs rs ⊎ ((more : List Route) × (qs ≡ r ∷ more) × SomeOf more rs)

module _ (s : AllSettings) where
  turn_begins : (h : History) (r : Route) (own : List TraceEntry) → IsTurn s h (history_after own h) r own → (flushes_begun own ≡ []) ⊎ (flushes_begun own ≡ r ∷ [])
  turn_begins h r own (MayNot may idle) = inl (ap flushes_begun idle.none)
  turn_begins h r own (Starts may once) = inr once.begun
  turn_begins h r own (InVain may vain) = inl (in_vain own h vain.only_failure)
  turn_begins h r own (NotHeld none idle) = inl (ap flushes_begun idle.none)

  walked_some : (rs : List Route) (h : History) (es : List TraceEntry) (new : History) → IsDispatched s rs h es new → SomeOf (flushes_begun es) rs
  walked_some [] h es new walked = ap flushes_begun walked.0
  walked_some (r ∷ rs) h es new walked =
      subst (λ (l : List TraceEntry). SomeOf (flushes_begun l) (r ∷ rs)) (sym walked.2)
      (subst (λ (l : List Route). SomeOf l (r ∷ rs)) (sym (begins_both walked.0 walked.1)) (by (turn_begins h r walked.0 walked.3) (walked_some rs (history_after walked.0 h) walked.1 new walked.4)))
    where
      by : (flushes_begun walked.0 ≡ []) ⊎ (flushes_begun walked.0 ≡ r ∷ []) → SomeOf (flushes_begun walked.1) rs → SomeOf (flushes_begun walked.0 ++ flushes_begun walked.1) (r ∷ rs)
      by (inl none) more = subst (λ (l : List Route). SomeOf (l ++ flushes_begun walked.1) (r ∷ rs)) (sym none) (inl more)
      by (inr one) more = subst (λ (l : List Route). SomeOf (l ++ flushes_begun walked.1) (r ∷ rs)) (sym one) (inr (flushes_begun walked.1, refl, more))

among : (rs qs : List Route) → SomeOf qs rs → (r : Route) → Contains qs r → Contains rs r
among [] qs some r has = subst (λ (l : List Route). Contains l r) some has
among (q ∷ rs) qs (inl more) r has = deeper q rs r (among rs qs more r has)
among (q ∷ rs) qs (inr (more, is, some)) r has =
    ⊎_elim (λ (same : q ≡ r). subst (Contains (q ∷ rs)) same (here q rs)) (λ (later : Contains more r). deeper q rs r (among rs more some r later)) (either q more r (subst (λ (l : List Route). Contains l r) is has))

module _ (s : AllSettings) (h : History) where
  order_kept : (rs qs : List Route) → SomeOf qs rs → InOrder s h rs → InOrder s h qs
  order_kept [] qs some order = subst (InOrder s h) (sym some) tt
  order_kept (q ∷ rs) qs (inl more) order = order_kept rs qs more order.1
  order_kept (q ∷ rs) qs (inr (more, is, some)) order = subst (InOrder s h) (sym is) (λ r has. order.0 r (among rs more some r has), order_kept rs more some order.1)

  first_of : (before between after : List Route) (q r : Route) → InOrder s h (before ++ q ∷ between ++ r ∷ after) → IsDueBefore s h q r
  first_of [] between after q r order = order.0 r (Contains-append_right between (r ∷ after) r (here r after))
  first_of (x ∷ before) between after q r order = first_of before between after q r order.1

  begun_some : (new : History) (es : List TraceEntry) → Execution (walk s h) es (Return new) → SomeOf (flushes_begun es) (due_routes s h)
  begun_some new es way = walked_some s (due_routes s h) h es new (walk_is_walked s h new es way)

  pub begun_due : (new : History) (es : List TraceEntry) (r : Route) → Execution (walk s h) es (Return new) → Contains (flushes_begun es) r → due s h r ≤ clock h
  begun_due new es r way has = due_by_now s h r (among (due_routes s h) (flushes_begun es) (begun_some new es way) r has)

  pub begun_sooner : (new : History) (es : List TraceEntry) (before between after : List Route) (q r : Route) → Execution (walk s h) es (Return new)
      → flushes_begun es ≡ before ++ q ∷ between ++ r ∷ after → IsDueBefore s h q r
  begun_sooner new es before between after q r way are =
      first_of before between after q r (subst (InOrder s h) are (order_kept (due_routes s h) (flushes_begun es) (begun_some new es way) (due_in_order s h)))
