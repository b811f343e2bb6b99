-- A run stops after its last tick.
use Rattle.std.proofs.Common.{◌≡◌, ℕ, ◌+◌, ◌^◌, ◌-◌, ◌<◌, ◌≤◌, ◌&&◌, ◌||◌, not, min, Bool, true, false, cond, List, [], ◌∷◌, map, Option, Some, None, refl, sym, ◌∙◌, ap, arith}
use Rattle.std.specs.Prelude.{◌==◌, is_none}
use Rattle.std.specs.List.{list_any}
use Rattle.std.proofs.lemmas.Bool.{eq-eqb, eqb-true, eqb-false}
use Rattle.fwd_outside.specs.Program.{Return, Execution}
use Rattle.fwd_outside.specs.declared.ends.Ends.{Ends}
use Rattle.fwd_outside.specs.declared.happening.Happening.{Happening}
use Rattle.fwd_outside.specs.declared.happening.Happening.TheVariants as happening
use Rattle.fwd_settings.specs.declared.settings_types.AllSettings.{AllSettings}
use Rattle.fwd_model.specs.Fact.{History, Happened}
use Rattle.fwd_model.specs.Trace.{TraceEntry, history_after}
use Rattle.fwd_model.specs.Settings.{saturating_plus}
use Rattle.fwd_model.specs.Clock.{clock, stopped, stopped_by, tick_count}
use Rattle.fwd_model.specs.Run.{RunResult, life, is_tick, is_last_tick}
use Rattle.fwd_theorem_trace.specs.Past.{past_after}
use Rattle.fwd_theorem_trace.specs.Events.{events_only, waited_events, logged_events}
use Rattle.fwd_theorem_trace.proofs.EventFacts.{brought_of_life}
use Rattle.fwd_theorem_limits.specs.RunEnd.{is_stop}
use Rattle.fwd_theorem_limits.specs.LastTick.{ticks_in, is_last, with_last_stop}
use Rattle.fwd_theorem_limits.proofs.Stops.{stop_by}

module _ (s : AllSettings) (n : ℕ) (small : n < 2 ^ 64) where
  abbrev events : List Happening → History
  events xs = logged_events s (Some n) xs

  -- What the events and the ticks and stops among them determine. Before the last tick the run is stopped only by
  -- one of them, and after it in any case.
  record Agrees (xs : List Happening) : Type 0 where
    same : events xs ≡ map (λ x. Happened x) (with_last_stop s n xs)
    count : tick_count (events xs) ≡ min (ticks_in xs) (2 ^ 64 - 1)
    early : ticks_in xs < n → is_none (stopped s (events xs)) ≡ not (list_any (is_stop s) xs)
    late : 0 < n → n ≤ ticks_in xs → is_none (stopped s (events xs)) ≡ false

  none_by : (b : Bool) (now : ℕ) (before : Option ℕ) → is_none (stopped_by b now before) ≡ not b && is_none before
  none_by true now None = refl
  none_by true now (Some at) = refl
  none_by false now before = refl

  stopped_none : (x : Happening) (h : History) → is_none (stopped s (Happened x ∷ h)) ≡ not (is_stop s x) && is_none (stopped s h)
  stopped_none x h = ap is_none (stop_by s x h) ∙ none_by (is_stop s x) (clock h) (stopped s h)

  not_or : (a b : Bool) → not a && not b ≡ not (a || b)
  not_or true b = refl
  not_or false b = refl

  and_off : (a : Bool) → a && false ≡ false
  and_off true = refl
  and_off false = refl

  -- an event that is no last tick
  module _ (x : Happening) (xs : List Happening) (before : Agrees xs) where
    plain : is_last_tick s (Some n) x (Happened x ∷ events xs) ≡ false → events (x ∷ xs) ≡ Happened x ∷ events xs
    plain off_it = ap (λ (b : Bool). cond b (Happened happening.Stop ∷ Happened x ∷ events xs) (Happened x ∷ events xs)) off_it

    early_by : (h : History) → h ≡ Happened x ∷ events xs → ticks_in xs < n → is_none (stopped s h) ≡ not (list_any (is_stop s) (x ∷ xs))
    early_by h is less =
        ap (λ (y : History). is_none (stopped s y)) is
        ∙ (stopped_none x (events xs) ∙ (ap (λ (b : Bool). not (is_stop s x) && b) (before.early less) ∙ not_or (is_stop s x) (list_any (is_stop s) xs)))

    late_by : (h : History) → h ≡ Happened x ∷ events xs → 0 < n → n ≤ ticks_in xs → is_none (stopped s h) ≡ false
    late_by h is some more =
        ap (λ (y : History). is_none (stopped s y)) is ∙ (stopped_none x (events xs) ∙ (ap (λ (b : Bool). not (is_stop s x) && b) (before.late some more) ∙ and_off (not (is_stop s x))))

  -- the next event isn't a tick
  other : (x : Happening) (xs : List Happening) → is_tick x ≡ false → ticks_in (x ∷ xs) ≡ ticks_in xs → tick_count (Happened x ∷ events xs) ≡ tick_count (events xs) → is_last s n x xs ≡ false → Agrees xs → Agrees (x ∷ xs)
  other x xs no_tick same_ticks same_count no_last before =
      let off_it : is_last_tick s (Some n) x (Happened x ∷ events xs) ≡ false = ap (λ (b : Bool). b && (tick_count (Happened x ∷ events xs) == n && is_none (stopped s (Happened x ∷ events xs)))) no_tick in
      let is : events (x ∷ xs) ≡ Happened x ∷ events xs = plain x xs before off_it in
      record {
        same = is ∙ (ap (λ (h : History). Happened x ∷ h) before.same
            ∙ sym (ap (λ (b : Bool). map (λ y. Happened y) (cond b (happening.Stop ∷ x ∷ with_last_stop s n xs) (x ∷ with_last_stop s n xs))) no_last));
        count = ap tick_count is ∙ (same_count ∙ (before.count ∙ ap (λ (k : ℕ). min k (2 ^ 64 - 1)) (sym same_ticks)));
        early = λ less. early_by x xs before (events (x ∷ xs)) is (omega (arith, less, same_ticks));
        late = λ some more. late_by x xs before (events (x ∷ xs)) is some (omega (arith, more, same_ticks));
      }

  -- a tick
  module _ (now : ℕ) (xs : List Happening) (before : Agrees xs) where
    abbrev tick : Happening
    tick = happening.Tick now

    abbrev ticked : History
    ticked = Happened tick ∷ events xs

    counted : tick_count ticked ≡ min (ticks_in xs + 1) (2 ^ 64 - 1)
    counted = ap (λ (k : ℕ). saturating_plus k 1) before.count ∙ omega arith

    still_none : is_none (stopped s ticked) ≡ is_none (stopped s (events xs))
    still_none = refl

    -- it isn't the last one
    not_last : is_last_tick s (Some n) tick ticked ≡ false → is_last s n tick xs ≡ false → (ticks_in xs + 1 ≡ n → is_none (stopped s (events xs)) ≡ false) → Agrees (tick ∷ xs)
    not_last off_it no_last was =
        let is : events (tick ∷ xs) ≡ ticked = plain tick xs before off_it in
        record {
          same = is ∙ (ap (λ (h : History). Happened tick ∷ h) before.same
              ∙ sym (ap (λ (b : Bool). map (λ y. Happened y) (cond b (happening.Stop ∷ tick ∷ with_last_stop s n xs) (tick ∷ with_last_stop s n xs))) no_last));
          count = ap tick_count is ∙ counted;
          early = λ less. early_by tick xs before (events (tick ∷ xs)) is (omega (arith, less));
          late = λ some more. by some more (ticks_in xs + 1 == n) refl is;
        }
      where
        by : 0 < n → n ≤ ticks_in xs + 1 → (b : Bool) → (ticks_in xs + 1 == n) ≡ b → events (tick ∷ xs) ≡ ticked → is_none (stopped s (events (tick ∷ xs))) ≡ false
        by some more true at is = ap (λ (h : History). is_none (stopped s h)) is ∙ was (eqb-true (ticks_in xs + 1) n at)
        by some more false at is = let apart = eqb-false (ticks_in xs + 1) n at in late_by tick xs before (events (tick ∷ xs)) is some (omega (arith, more, apart))

    -- it is
    last : is_last_tick s (Some n) tick ticked ≡ true → is_last s n tick xs ≡ true → ticks_in xs + 1 ≡ n → Agrees (tick ∷ xs)
    last on_it is_nth at =
        let is : events (tick ∷ xs) ≡ Happened happening.Stop ∷ ticked = ap (λ (b : Bool). cond b (Happened happening.Stop ∷ ticked) ticked) on_it in
        record {
          same = is ∙ (ap (λ (h : History). Happened happening.Stop ∷ Happened tick ∷ h) before.same
              ∙ sym (ap (λ (b : Bool). map (λ y. Happened y) (cond b (happening.Stop ∷ tick ∷ with_last_stop s n xs) (tick ∷ with_last_stop s n xs))) is_nth));
          count = ap tick_count is ∙ counted;
          early = λ less. absurd (omega (arith, less, at));
          late = λ some more. ap (λ (h : History). is_none (stopped s h)) is ∙ stopped_none happening.Stop ticked;
        }

    ticks_once : Agrees (tick ∷ xs)
    ticks_once = by (ticks_in xs + 1 == n) refl (list_any (is_stop s) xs) refl
      where
        off : (b : Bool) → b && false ≡ false
        off true = refl
        off false = refl

        by : (b : Bool) → (ticks_in xs + 1 == n) ≡ b → (c : Bool) → list_any (is_stop s) xs ≡ c → Agrees (tick ∷ xs)
        by true at true some =
            let same = eqb-true (ticks_in xs + 1) n at in
            let was : is_none (stopped s (events xs)) ≡ false = before.early (omega (arith, same)) ∙ ap not some in
            not_last (ap (λ (b : Bool). (tick_count ticked == n) && b) was ∙ off (tick_count ticked == n)) (ap (λ (b : Bool). (ticks_in xs + 1 == n) && not b) some ∙ off (ticks_in xs + 1 == n)) (λ same. was)
        by true at false none =
            let same = eqb-true (ticks_in xs + 1) n at in
            let was : is_none (stopped s (events xs)) ≡ true = before.early (omega (arith, same)) ∙ ap not none in
            let reached : (tick_count ticked == n) ≡ true = eq-eqb (tick_count ticked) n (counted ∙ omega (arith, same, small)) in
            last (rw (reached) was) (rw (at, none) refl) same
        by false at c any =
            let apart = eqb-false (ticks_in xs + 1) n at in
            not_last (reached (tick_count ticked == n) refl) (ap (λ (b : Bool). b && not (list_any (is_stop s) xs)) at) (λ same. absurd (apart same))
          where
            reached : (b : Bool) → (tick_count ticked == n) ≡ b → b && is_none (stopped s ticked) ≡ false
            reached false is = refl
            reached true is =
                let apart = eqb-false (ticks_in xs + 1) n at in
                let full = eqb-true (tick_count ticked) n is in
                let is_min = counted in
                before.late (omega (arith, full, is_min, small, apart)) (omega (arith, full, is_min, small, apart))

  agree : (xs : List Happening) → Agrees xs
  agree [] = record { same = refl; count = refl; early = λ less. refl; late = λ some more. absurd (omega (arith, some, more)) }
  agree (happening.Tick now ∷ xs) = ticks_once now xs (agree xs)
  agree (x ∷ xs) = other x xs refl refl refl refl (agree xs)

  pub stops_after_ticks : (ends : Ends) (turns : ℕ) (es : List TraceEntry) (end : RunResult) → Execution (life s ends (Some n) turns) es (Return end)
      → events_only (history_after es []) ≡ map (λ x. Happened x) (with_last_stop s n (waited_events (past_after [] es)))
  stops_after_ticks ends turns es end way = brought_of_life s (Some n) ends turns es end way ∙ (agree (waited_events (past_after [] es))).same

pub no_stop_without_ticks : (s : AllSettings) (xs : List Happening) → logged_events s None xs ≡ map (λ x. Happened x) xs
no_stop_without_ticks s [] = refl
no_stop_without_ticks s (x ∷ xs) = ap (λ (h : History). Happened x ∷ h) (no_stop_without_ticks s xs)
