-- Routes are retried after their wait, and not too often.
use Rattle.std.proofs.Common.{◌≡◌, ℕ, ◌+◌, ◌-◌, ◌*◌, ◌<◌, ◌≤◌, ◌%◌, ◌&&◌, ◌||◌, not, min, Bool, true, false, cond, List, [], ◌∷◌, ◌++◌, map, filter, find, length, Option, Some, None, refl, sym, ◌∙◌, ap, subst, arith}
use Prim.Native.Nat.{◌^◌}
use Rattle.std.specs.Prelude.{◌==◌, nat_le, is_some}
use Rattle.std.specs.Option.{option_map_or}
use Rattle.std.proofs.lemmas.Bool.{eqb-true, and_parts, leb-true, leb-false}
use Rattle.fwd_base.specs.declared.output_options.Retries.{Retries as Limit}
use Rattle.fwd_base.specs.declared.output_options.Retries.TheVariants.{Times, Unlimited}
use Rattle.fwd_event.specs.declared.event.Event.{Event}
use Rattle.fwd_outside.specs.Program.{entry, Execution}
use Rattle.fwd_outside.specs.declared.ends.Ends.{Ends}
use Rattle.fwd_retry.specs.Wait.{longest, wait}
use Rattle.fwd_table.specs.Outcomes.{may_retry}
use Rattle.fwd_table.specs.Row.{Row}
use Rattle.fwd_table.specs.Route.{Route as Owed}
use Rattle.fwd_table.specs.Routes.{is_to}
use Rattle.fwd_table.specs.Rows.{is_row_of, row_at, waits_for}
use Rattle.fwd_settings.specs.declared.settings_types.AllSettings.{AllSettings}
use Rattle.fwd_settings.specs.declared.settings_types.OutputSet.{OutputSet}
use Rattle.fwd_model.specs.Fact.{Fact, History, Route, Outcome, FlushStarted, InFlight, Retries, Delivered, Failed, Exhausted, Evicted, Found, ChunkClosed, OnRoute}
use Rattle.fwd_model.specs.Trace.{Call, Action, TraceEntry, Note, history_after, history_after_call}
use Rattle.fwd_model.specs.Settings.{saturating_plus, outputs_for, output_at, output_name, retries_at}
use Rattle.fwd_model.specs.Clock.{clock}
use Rattle.fwd_model.specs.RecoveredFile.{recovered_chunk, is_marked_done}
use Rattle.fwd_model.specs.Chunks.{ChunkInfo, chunks_of, is_closed}
use Rattle.fwd_model.specs.Routes.{route, same_route, tries, due, progress_of, flight, resolves, is_resolved, table_route, owed, is_owed, row_of, rows_of, is_idle}
use Rattle.fwd_model.specs.Run.{RunResult, life}
use Rattle.fwd_theorem_trace.specs.Past.{Past, logged, past_after}
use Rattle.fwd_theorem_trace.specs.Allowed.{Allowed}
use Rattle.fwd_theorem_trace.proofs.Members.{from_filter, from_find, from_map, off_where_not}
use Rattle.fwd_theorem_trace.proofs.Traversal.{noted_since}
use Rattle.fwd_theorem_trace.proofs.Run.{due_since}
use Rattle.fwd_theorem_trace.proofs.Persistence.{shut_still}
use Rattle.fwd_theorem_trace.proofs.RouteResolution.{same_routes, same_itself}
use Rattle.fwd_theorem_delivery.specs.RetryCounts.{outcomes, is_begun, begin_count, AwaitsRetry}
use Rattle.fwd_theorem_delivery.specs.Causes.{AreRetriesUsed}
use Rattle.fwd_theorem_delivery.proofs.PausedInputs.{since_both, due_in_life}
use Rattle.fwd_theorem_delivery.proofs.TimedFacts.{is_on_the_way, on_the_way, just_begun, RouteTimed, FactTimed, Timed}
use Rattle.fwd_theorem_delivery.proofs.InputTimes.{noted_at}
use Rattle.fwd_theorem_delivery.proofs.TimedRun.{timed_life}

route_is : (chunk output : ℕ) (r : Route) → chunk ≡ r.chunk → output ≡ r.output → route chunk output ≡ r
route_is chunk output r chunks outputs = rw (chunks, outputs) refl

more_or_same : (a b : ℕ) → a ≤ a + b
more_or_same a b = omega arith

at_least : (n base cap word : ℕ) → base ≤ wait n base cap word
unfolding wait
at_least n base cap word = more_or_same base (word % (longest n base cap - base + 1))

module _ (s : AllSettings) where
  timed_before : (es : List TraceEntry) (past : Past) → Timed s (logged (past_after past es)) → Timed s (logged past)
  timed_before [] past timed = timed
  timed_before (e ∷ es) past timed = by e.call (timed_before es (e ∷ past) timed)
    where
      by : (call : Call) → Timed s (history_after_call call (logged past)) → Timed s (logged past)
      by (Note fact) later = later.1
      by call later = later

  -- ---- a wait

  stays_shut : (later h : History) (n : ℕ) → is_closed h n ≡ true → is_closed (later ++ h) n ≡ true
  stays_shut [] h n is = is
  stays_shut (fact ∷ later) h n is = shut_still fact (later ++ h) n (stays_shut later h n is)

  due_stays : (later h : History) (r : Route) → outcomes later r ≡ [] → is_closed h r.chunk ≡ true → Timed s (later ++ h) → due s (later ++ h) r ≡ due s h r
  due_stays [] h r none shut timed = refl
  due_stays (ChunkClosed n ∷ later) h r none shut timed = by (n == r.chunk) refl (due_stays later h r none shut timed.1)
    where
      by : (b : Bool) → n == r.chunk ≡ b → due s (later ++ h) r ≡ due s h r → cond b (clock (later ++ h)) (due s (later ++ h) r) ≡ due s h r
      by true is more =
          let off : is_closed (later ++ h) r.chunk ≡ false = subst (λ (m : ℕ). is_closed (later ++ h) m ≡ false) (eqb-true n r.chunk is) timed.0.0 in
          absurd (cc (sym off ∙ stays_shut later h r.chunk shut))
      by false is more = more
  due_stays (OnRoute other outcome ∷ later) h r none shut timed = by (same_route other r) refl none (λ still. due_stays later h r still shut timed.1)
    where
      by : (b : Bool) → same_route other r ≡ b → cond b (outcome ∷ outcomes later r) (outcomes later r) ≡ [] → (outcomes later r ≡ [] → due s (later ++ h) r ≡ due s h r) → due s (OnRoute other outcome ∷ later ++ h) r ≡ due s h r
      by true is now more = absurd (cc now)
      by false is now more = rw is (more now)
  due_stays (fact ∷ later) h r none shut timed = due_stays later h r none shut timed.1

  retry_due : (r : Route) (word : ℕ) (h : History) → due s (OnRoute r (Retries word) ∷ h) r ≡ saturating_plus (clock h) (1000 * wait (saturating_plus (tries h r) 1) s.service.base s.service.cap word)
  retry_due r word h = rw (same_itself r) refl

  due_at : (past : Past) (r : Route) → Allowed s past → Timed s (logged past) → (was : AwaitsRetry (logged past) r)
      → due s (logged past) r ≡ saturating_plus (clock was.before) (1000 * wait (saturating_plus (tries was.before r) 1) s.service.base s.service.cap was.word)
  due_at past r due_past timed was =
      let tail : History = OnRoute r (Retries was.word) ∷ was.before in
      let at = noted_at s past was.later (OnRoute r (Retries was.word)) was.before due_past was.is in
      let shut : is_closed was.before r.chunk ≡ true = subst (λ (h : History). is_closed h r.chunk ≡ true) at.is at.may in
      let same : due s (logged past) r ≡ due s tail r = ap (λ (h : History). due s h r) was.is ∙ due_stays was.later tail r was.none shut (subst (Timed s) was.is timed) in
      same ∙ retry_due r was.word was.before

  waited_at : (past : Past) (r : Route) (events : List Event) → Allowed s past → Timed s (OnRoute r (FlushStarted events) ∷ logged past) → (was : AwaitsRetry (logged past) r)
      → saturating_plus (clock was.before) (1000 * wait (saturating_plus (tries was.before r) 1) s.service.base s.service.cap was.word) ≤ clock (logged past)
  waited_at past r events due_past timed was = subst (λ (n : ℕ). n ≤ clock (logged past)) (due_at past r due_past timed.1 was) timed.0.0

  pub due_in_time : (ends : Ends) (ticks : Option ℕ) (turns : ℕ) (es : List TraceEntry) (left : Action RunResult) (r : Route) (was : AwaitsRetry (history_after es []) r) → Execution (life s ends ticks turns) es left
      → due s (history_after es []) r ≡ saturating_plus (clock was.before) (1000 * wait (saturating_plus (tries was.before r) 1) s.service.base s.service.cap was.word)
  due_in_time ends ticks turns es left r was way =
      let same = noted_since [] es in
      subst (λ (h : History). due s h r ≡ saturating_plus (clock was.before) (1000 * wait (saturating_plus (tries was.before r) 1) s.service.base s.service.cap was.word)) same
      (due_at (past_after [] es) r (due_since s ends ticks turns es left way) (timed_life s ends ticks turns es left way)
      (record { word = was.word; before = was.before; later = was.later; is = same ∙ was.is; none = was.none }))

  pub waited_in_life : (ends : Ends) (ticks : Option ℕ) (turns : ℕ) (before after : List TraceEntry) (left : Action RunResult) (r : Route) (events : List Event) (answer : Unit {0}) (was : AwaitsRetry (history_after before []) r)
      → Execution (life s ends ticks turns) (before ++ entry (Note (OnRoute r (FlushStarted events))) answer ∷ after) left
      → saturating_plus (clock was.before) (1000 * wait (saturating_plus (tries was.before r) 1) s.service.base s.service.cap was.word) ≤ clock (history_after before [])
  waited_in_life ends ticks turns before after left r events answer was way =
      let e : TraceEntry = entry (Note (OnRoute r (FlushStarted events))) answer in
      let due_past = due_in_life s ends ticks turns before e after left way in
      let timed = subst (λ (p : Past). Timed s (logged p)) (since_both s [] before (e ∷ after)) (timed_life s ends ticks turns (before ++ e ∷ after) left way) in
      at (history_after before []) (noted_since [] before) (timed_before after (e ∷ past_after [] before) timed) due_past.1 was
    where
      at : (h : History) → logged (past_after [] before) ≡ h → Timed s (OnRoute r (FlushStarted events) ∷ logged (past_after [] before)) → Allowed s (past_after [] before) → (was : AwaitsRetry h r)
          → saturating_plus (clock was.before) (1000 * wait (saturating_plus (tries was.before r) 1) s.service.base s.service.cap was.word) ≤ clock h
      at h same timed due_past was =
          subst (λ (x : History). saturating_plus (clock was.before) (1000 * wait (saturating_plus (tries was.before r) 1) s.service.base s.service.cap was.word) ≤ clock x) same
          (waited_at (past_after [] before) r events due_past timed (record { word = was.word; before = was.before; later = was.later; is = same ∙ was.is; none = was.none }))

  pub base_in_life : (ends : Ends) (ticks : Option ℕ) (turns : ℕ) (before after : List TraceEntry) (left : Action RunResult) (r : Route) (events : List Event) (answer : Unit {0}) (was : AwaitsRetry (history_after before []) r)
      → Execution (life s ends ticks turns) (before ++ entry (Note (OnRoute r (FlushStarted events))) answer ∷ after) left
      → saturating_plus (clock was.before) (1000 * s.service.base) ≤ clock (history_after before [])
  base_in_life ends ticks turns before after left r events answer was way =
      let le = waited_in_life ends ticks turns before after left r events answer was way in
      let least = at_least (saturating_plus (tries was.before r) 1) s.service.base s.service.cap was.word in
      omega (arith, le, least)

  -- ---- what is idle

  idle_means : (h : History) (r : Route) → is_idle s h r ≡ true → (is_resolved s h r ≡ false) × (is_some (flight h r) ≡ false)
  idle_means h r idle = by (row_at (record { 0 = r.chunk }) (rows_of s h)) refl idle
    where
      routed : (c : ChunkInfo) (o : Option Owed) → c.number ≡ r.chunk → find (is_to (record { 0 = r.output })) (map (table_route s h c.number) (owed s h c)) ≡ o → option_map_or (λ (x : Owed). not x.flying) o false ≡ true
          → (is_resolved s h r ≡ false) × (is_some (flight h r) ≡ false)
      routed c None number is waits = absurd (cc waits)
      routed c (Some x) number is waits =
          let found = from_find (is_to (record { 0 = r.output })) (map (table_route s h c.number) (owed s h c)) x is in
          let made = from_map (table_route s h c.number) (owed s h c) x found.0 in
          let kept = from_filter (λ (output : ℕ). not (is_resolved s h (route c.number output))) (outputs_for s c.tag) made.0 made.1 in
          let output : made.0 ≡ r.output = ap (λ (y : Owed). y.output.0) made.2 ∙ eqb-true x.output.0 r.output found.1 in
          let same : route c.number made.0 ≡ r = route_is c.number made.0 r number output in (
            subst (λ (q : Route). is_resolved s h q ≡ false) same (off_where_not (is_resolved s h (route c.number made.0)) kept.1),
            subst (λ (q : Route). is_some (flight h q) ≡ false) same (ap (λ (y : Owed). y.flying) made.2 ∙ off_where_not x.flying waits),
          )

      rowed : (row : Row) (c : ChunkInfo) → row_of s h c ≡ row → row.chunk.0 ≡ r.chunk → waits_for (record { 0 = r.output }) row ≡ true → (is_resolved s h r ≡ false) × (is_some (flight h r) ≡ false)
      rowed row c is number waits =
          let same = subst (λ (x : Row). waits_for (record { 0 = r.output }) x ≡ true) (sym is) waits in
          routed c (find (is_to (record { 0 = r.output })) (map (table_route s h c.number) (owed s h c))) (ap (λ (x : Row). x.chunk.0) is ∙ number) refl (and_parts (is_closed h c.number) _ same).1

      by : (at : Option Row) → row_at (record { 0 = r.chunk }) (rows_of s h) ≡ at → option_map_or (waits_for (record { 0 = r.output })) at false ≡ true → (is_resolved s h r ≡ false) × (is_some (flight h r) ≡ false)
      by None is waits = absurd (cc waits)
      by (Some row) is waits =
          let found = from_find (is_row_of (record { 0 = r.chunk })) (rows_of s h) row is in
          let made = from_map (row_of s h) (filter (is_owed s h) (chunks_of h)) row found.0 in
          rowed row made.0 made.2 (eqb-true row.chunk.0 r.chunk found.1) waits

  -- ---- how often it is begun

  module _ (r : Route) (n : ℕ) (limited : retries_at (output_at s r.output) ≡ Times n) (small : n < 2 ^ 64 - 1) where
    abbrev is_again : Outcome → Bool
    is_again (Retries word) = true
    is_again outcome = false

    -- how often it was to be retried
    abbrev again : History → ℕ
    again h = length (filter is_again (outcomes h r))

    abbrev one_if : Bool → ℕ
    one_if b = cond b 1 0

    abbrev open_or_ended : History → ℕ
    open_or_ended h = one_if (on_the_way h r || is_resolved s h r)

    record Limited (h : History) : Type 0 where
      most : begin_count h r ≤ again h + open_or_ended h
      few : again h ≤ n
      counted : min (again h) (2 ^ 64 - 1) ≤ tries h r

    not_under_way : (h : History) → is_some (flight h r) ≡ false → just_begun h r ≡ false → on_the_way h r ≡ false
    not_under_way [] flies begun = refl
    not_under_way (OnRoute other outcome ∷ h) flies begun = by (same_route other r) flies begun (not_under_way h)
      where
        ended : (o : Outcome) → is_some (progress_of o) ≡ false → is_begun o ≡ false → is_on_the_way o ≡ false
        ended (FlushStarted events) flies begun = absurd (cc begun)
        ended (InFlight progress) flies begun = absurd (cc flies)
        ended o flies begun = refl

        by : (b : Bool) → is_some (cond b (progress_of outcome) (flight h r)) ≡ false → cond b (is_begun outcome) (just_begun h r) ≡ false → (is_some (flight h r) ≡ false → just_begun h r ≡ false → on_the_way h r ≡ false)
            → cond b (is_on_the_way outcome) (on_the_way h r) ≡ false
        by true flies begun more = ended outcome flies begun
        by false flies begun more = more flies begun
    not_under_way (fact ∷ h) flies begun = not_under_way h flies begun

    grows_with : (a b x : Bool) → one_if (a || b) ≤ one_if (a || (x || b))
    grows_with true b x = omega arith
    grows_with false b true = by b
      where
        by : (b : Bool) → one_if b ≤ 1
        by true = omega arith
        by false = omega arith
    grows_with false b false = omega arith

    at_most_one : (b : Bool) → one_if b ≤ 1
    at_most_one true = omega arith
    at_most_one false = omega arith

    -- an outcome of this route, in the numbers before
    own : (outcome : Outcome) (h : History) → RouteTimed s r outcome h → Limited h → Limited (OnRoute r outcome ∷ h)
    own outcome h timed was = by outcome (same_itself r) timed
      where
        by : (o : Outcome) → same_route r r ≡ true → RouteTimed s r o h → Limited (OnRoute r o ∷ h)
        by (FlushStarted events) is (by_now, (idle, (calm, sends))) =
            let means = idle_means h r idle in
            let none : open_or_ended h ≡ 0 = rw (not_under_way h means.1 (calm r), means.0) refl in
            let most = was.most in
            record {
              most = rw is (omega (arith, most, none));
              few = rw is (was.few);
              counted = rw is (was.counted);
            }
        by (InFlight progress) is timed =
            let most = was.most in
            let one = at_most_one (on_the_way h r || is_resolved s h r) in
            record { most = rw is (omega (arith, most, one)); few = rw is (was.few); counted = rw is (was.counted) }
        by (Retries word) is timed =
            let most = was.most in
            let one = at_most_one (on_the_way h r || is_resolved s h r) in
            let few = was.few in
            let counted = was.counted in
            let may : nat_le (saturating_plus (tries h r) 1) n ≡ true = subst (λ (limit : Limit). may_retry limit (tries h r) ≡ true) limited timed.0 in
            let le = leb-true (saturating_plus (tries h r) 1) n may in
            record { most = rw is (omega (arith, most, one)); few = rw is (omega (arith, few, counted, le, small)); counted = rw is (omega (arith, counted)) }
        by Delivered is timed =
            let most = was.most in
            let one = at_most_one (on_the_way h r || is_resolved s h r) in
            record { most = rw is (omega (arith, most, one)); few = rw is (was.few); counted = rw is (was.counted) }
        by Failed is timed =
            let most = was.most in
            let one = at_most_one (on_the_way h r || is_resolved s h r) in
            record { most = rw is (omega (arith, most, one)); few = rw is (was.few); counted = rw is (was.counted) }
        by Exhausted is timed =
            let most = was.most in
            let one = at_most_one (on_the_way h r || is_resolved s h r) in
            let counted = was.counted in
            record { most = rw is (omega (arith, most, one)); few = rw is (was.few); counted = rw is (omega (arith, counted)) }
        by Evicted is timed =
            let most = was.most in
            let one = at_most_one (on_the_way h r || is_resolved s h r) in
            record { most = rw is (omega (arith, most, one)); few = rw is (was.few); counted = rw is (was.counted) }

    others : (other : Route) (outcome : Outcome) (h : History) → same_route other r ≡ false → Limited h → Limited (OnRoute other outcome ∷ h)
    others other outcome h is was = record { most = rw is (was.most); few = rw is (was.few); counted = rw is (was.counted) }

    limited_fact : (fact : Fact) (h : History) → FactTimed s fact h → Limited h → Limited (fact ∷ h)
    limited_fact (OnRoute other outcome) h timed was = by (same_route other r) refl
      where
        by : (b : Bool) → same_route other r ≡ b → Limited (OnRoute other outcome ∷ h)
        by true is =
            let same = same_routes other r is in
            subst (λ (q : Route). Limited (OnRoute q outcome ∷ h)) (sym same) (own outcome h (subst (λ (q : Route). RouteTimed s q outcome h) same timed) was)
        by false is = others other outcome h is was
    limited_fact (Found number stream name bytes) h timed was =
        let most = was.most in
        let more = grows_with (on_the_way h r) (is_resolved s h r) (number == r.chunk && is_marked_done (output_name s r.output) (recovered_chunk bytes)) in
        record { most = omega (arith, most, more); few = was.few; counted = was.counted }
    limited_fact fact h timed was = record { most = was.most; few = was.few; counted = was.counted }

    limited_all : (h : History) → Timed s h → Limited h
    limited_all [] timed = record { most = omega arith; few = omega arith; counted = omega arith }
    limited_all (fact ∷ h) timed = limited_fact fact h timed.0 (limited_all h timed.1)

    begun_at_most : (h : History) → Timed s h → begin_count h r ≤ n + 1
    begun_at_most h timed =
        let all = limited_all h timed in
        let most = all.most in
        let few = all.few in
        let one = at_most_one (on_the_way h r || is_resolved s h r) in
        omega (arith, most, few, one)

    -- ---- how often it was begun when its retries are exhausted

    abbrev is_ended : Outcome → Bool
    is_ended Exhausted = true
    is_ended outcome = false

    abbrev ended : History → ℕ
    ended h = length (filter is_ended (outcomes h r))

    record Used (h : History) : Type 0 where
      least : again h + one_if (on_the_way h r) ≤ begin_count h r
      used : tries h r ≤ again h + ended h
      left : on_the_way h r ≡ true → ended h ≡ 0

    or_none : (a b : Bool) → (a || b) ≡ false → (a ≡ false) × (b ≡ false)
    or_none true b is = absurd (cc is)
    or_none false b is = (refl, is)

    never_ended : (h : History) → is_resolved s h r ≡ false → ended h ≡ 0
    never_ended [] is = refl
    never_ended (Found number stream name bytes ∷ h) is = never_ended h (or_none (number == r.chunk && is_marked_done (output_name s r.output) (recovered_chunk bytes)) (is_resolved s h r) is).1
    never_ended (OnRoute other outcome ∷ h) is = by (same_route other r) outcome (or_none (same_route other r && resolves outcome) (is_resolved s h r) is) (never_ended h)
      where
        own_none : (o : Outcome) → resolves o ≡ false → length (filter is_ended (o ∷ outcomes h r)) ≡ ended h
        own_none (FlushStarted events) is = refl
        own_none (InFlight progress) is = refl
        own_none (Retries word) is = refl
        own_none Delivered is = refl
        own_none Failed is = refl
        own_none Exhausted is = absurd (cc is)
        own_none Evicted is = refl

        by : (b : Bool) (o : Outcome) → ((b && resolves o) ≡ false) × (is_resolved s h r ≡ false) → (is_resolved s h r ≡ false → ended h ≡ 0) → length (filter is_ended (cond b (o ∷ outcomes h r) (outcomes h r))) ≡ 0
        by true o none more = own_none o none.0 ∙ more none.1
        by false o none more = more none.1
    never_ended (fact ∷ h) is = never_ended h is

    used_own : (outcome : Outcome) (h : History) → RouteTimed s r outcome h → Used h → Used (OnRoute r outcome ∷ h)
    used_own outcome h timed was = by outcome (same_itself r) timed
      where
        at_least_again : again h ≤ begin_count h r
        at_least_again = let least = was.least in omega (arith, least)

        while_on : on_the_way h r ≡ true → again h + 1 ≤ begin_count h r
        while_on way = let least = was.least in rw way at least

        by : (o : Outcome) → same_route r r ≡ true → RouteTimed s r o h → Used (OnRoute r o ∷ h)
        by (FlushStarted events) is (by_now, (idle, (calm, sends))) =
            let least = at_least_again in
            record { least = rw is (omega (arith, least)); used = rw is (was.used); left = λ way. rw is (never_ended h (idle_means h r idle).0) }
        by (InFlight progress) is timed = record { least = rw is (while_on timed); used = rw is (was.used); left = λ way. rw is (was.left timed) }
        by (Retries word) is timed =
            let least = while_on timed.1 in
            let used = was.used in
            record { least = rw is (omega (arith, least)); used = rw is (omega (arith, used)); left = λ way. let off : false ≡ true = rw is at way in absurd (cc off) }
        by Delivered is timed = let least = at_least_again in record { least = rw is (omega (arith, least)); used = rw is (was.used); left = λ way. let off : false ≡ true = rw is at way in absurd (cc off) }
        by Failed is timed = let least = at_least_again in record { least = rw is (omega (arith, least)); used = rw is (was.used); left = λ way. let off : false ≡ true = rw is at way in absurd (cc off) }
        by Exhausted is timed =
            let least = at_least_again in
            let used = was.used in
            record { least = rw is (omega (arith, least)); used = rw is (omega (arith, used)); left = λ way. let off : false ≡ true = rw is at way in absurd (cc off) }
        by Evicted is timed = let least = at_least_again in record { least = rw is (omega (arith, least)); used = rw is (was.used); left = λ way. let off : false ≡ true = rw is at way in absurd (cc off) }

    used_fact : (fact : Fact) (h : History) → FactTimed s fact h → Used h → Used (fact ∷ h)
    used_fact (OnRoute other outcome) h timed was = by (same_route other r) refl
      where
        by : (b : Bool) → same_route other r ≡ b → Used (OnRoute other outcome ∷ h)
        by true is =
            let same = same_routes other r is in
            subst (λ (q : Route). Used (OnRoute q outcome ∷ h)) (sym same) (used_own outcome h (subst (λ (q : Route). RouteTimed s q outcome h) same timed) was)
        by false is = record { least = rw is (was.least); used = rw is (was.used); left = λ way. let on : on_the_way h r ≡ true = rw is at way in rw is (was.left on) }
    used_fact fact h timed was = record { least = was.least; used = was.used; left = was.left }

    used_all : (h : History) → Timed s h → Used h
    used_all [] timed = record { least = omega arith; used = omega arith; left = λ way. refl }
    used_all (fact ∷ h) timed = used_fact fact h timed.0 (used_all h timed.1)

    begun_exactly : (h : History) → Timed s h → on_the_way h r ≡ true → n < saturating_plus (tries h r) 1 → begin_count h r ≡ n + 1
    begun_exactly h timed way over =
        let most = begun_at_most h timed in
        let used = (used_all h timed).used in
        let none = (used_all h timed).left way in
        let all = (used_all h timed).least in
        let least : again h + 1 ≤ begin_count h r = rw way at all in
        omega (arith, most, used, none, least, over)

  not_unlimited : (tried : ℕ) → may_retry Unlimited tried ≡ false → ⊥
  not_unlimited tried is = absurd (cc is)

  -- a route whose retries are exhausted was begun once more than its limit
  pub used_up : (h : History) (r : Route) → Timed s h → RouteTimed s r Exhausted h → AreRetriesUsed s h r
  used_up h r timed ended = by (retries_at (output_at s r.output)) refl
    where
      by : (limit : Limit) → retries_at (output_at s r.output) ≡ limit → AreRetriesUsed s h r
      by Unlimited is = absurd (not_unlimited (tries h r) (subst (λ (l : Limit). may_retry l (tries h r) ≡ false) is ended.0))
      by (Times n) is =
          let over = leb-false (saturating_plus (tries h r) 1) n (subst (λ (l : Limit). may_retry l (tries h r) ≡ false) is ended.0) in
          record { limit = n; limited = λ output at. ap retries_at (sym at) ∙ is; flushed = begun_exactly r n is (omega (arith, over)) h timed ended.1 over }

  pub limited_in_life : (ends : Ends) (ticks : Option ℕ) (turns : ℕ) (es : List TraceEntry) (left : Action RunResult) (r : Route) (n : ℕ) → Execution (life s ends ticks turns) es left
      → retries_at (output_at s r.output) ≡ Times n → n < 2 ^ 64 - 1 → begin_count (history_after es []) r ≤ n + 1
  limited_in_life ends ticks turns es left r n way limited small =
      subst (λ (h : History). begin_count h r ≤ n + 1) (noted_since [] es) (begun_at_most r n limited small (logged (past_after [] es)) (timed_life s ends ticks turns es left way))

  pub limited_by_settings : (ends : Ends) (ticks : Option ℕ) (turns : ℕ) (es : List TraceEntry) (left : Action RunResult) (r : Route) (output : OutputSet) (n : ℕ) → Execution (life s ends ticks turns) es left
      → output_at s r.output ≡ Some output → output.retries ≡ Times n → n < 2 ^ 64 - 1 → begin_count (history_after es []) r ≤ n + 1
  limited_by_settings ends ticks turns es left r output n way at limited small = limited_in_life ends ticks turns es left r n way (ap retries_at at ∙ limited) small
