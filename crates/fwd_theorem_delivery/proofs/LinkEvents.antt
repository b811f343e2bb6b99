-- Events on the links of flushes keep the invariants of all flushes.
use Rattle.std.proofs.Common.{◌≡◌, if◌then◌else◌, Bool, true, false, ◌+◌, ◌-◌, length, length-append, arith, ◌≢◌, ℕ, List, [], ◌∷◌, ◌++◌, append_assoc, Option, Some, None, inl, inr, refl, sym, ◌∙◌, ap, subst}
use Rattle.std.specs.Prelude.{◌==◌}
use Rattle.std.proofs.lemmas.List.{append-nil}
use Rattle.fwd_outside.specs.Program.{entry, Return, Execution, bind}
use Rattle.fwd_base.specs.declared.ids.LinkId.{LinkId}
use Rattle.fwd_outside.specs.Loop.{LoopEntry, Wait}
use Rattle.fwd_outside.specs.declared.happening.Happening.{Happening}
use Rattle.fwd_outside.specs.declared.happening.Happening.TheVariants as happening
use Rattle.fwd_outside.specs.NewLinks.{greatest_after}
use Rattle.fwd_flush.specs.FlushProgram.{Progress, Delivery, link_in}
use Rattle.fwd_flush.specs.Outcome.{bytes_pushed, Replied, LinkBroke, Event, Occurrence, events_of_occurrence, program_at, events_of, ProgressRepresents}
use Rattle.fwd_flush.proofs.Outcomes.{bytes_pushed-append, goes_law}
use Rattle.fwd_settings.specs.declared.settings_types.AllSettings.{AllSettings}
use Rattle.fwd_model.specs.Fact.{History, Route, Sent, OnRoute}
use Rattle.fwd_model.specs.Trace.{Action}
use Rattle.fwd_model.specs.DeviceActions.{on_loop}
use Rattle.fwd_model.specs.Routes.{flight, begun, uses_link, route_on_link}
use Rattle.fwd_model.specs.Payloads.{delivery}
use Rattle.fwd_model.specs.FlushActions.{notes_calls, resumes}
use Rattle.fwd_theorem_delivery.specs.Links.{ReturnsLink, close_count, event_on, all_on_link, since_dial}
use Rattle.fwd_theorem_delivery.proofs.OwnEvents.{GivesNone, among_left}
use Rattle.fwd_theorem_delivery.proofs.LinkCalls.{all_closes, closes_in, closings_here, closings_elsewhere, AreOn, StaysOn, CloseIsLast, closes_last, speaks_way, speaks_goes, on_gives_none, on_here, on_elsewhere, on_greatest}
use Rattle.fwd_theorem_delivery.proofs.Outcomes.{Now, asked, noted, behind_all, ends_bind, ends_loop}
use Rattle.fwd_theorem_delivery.proofs.FlushInvariant.{FlushState, kept_fact, kept_unheard}
use Rattle.fwd_theorem_delivery.specs.LinkOutcomes.{dial_target}
use Rattle.fwd_theorem_delivery.proofs.LinkClosures.{closed_by, closed_fact, closed_aside, closed_landed, closed_at, close_count-append, flying_off}
use Rattle.fwd_theorem_delivery.proofs.Counts.{counted_aside, counted_pushed}
use Rattle.fwd_theorem_delivery.specs.OpenLinks.{AreOnOpenLinks}
use Rattle.fwd_theorem_delivery.proofs.OpenLinks.{opened_one, opened_flush}
use Rattle.fwd_theorem_delivery.proofs.OutcomeFacts.{gives_neither, closes_neither, on_both, reached_at, MayLogOutcome, safe_lands}
use Rattle.fwd_theorem_delivery.proofs.RunInvariant.{RunInvariant, whole_as}
use Rattle.fwd_theorem_delivery.proofs.FlushEnd.{on_flies, off_elsewhere}
use Rattle.fwd_theorem_delivery.proofs.OutcomeCauses.{mine, has_it, flown_on, resumed}
use Rattle.fwd_theorem_delivery.proofs.QuietInvariant.{KeepsInvariant, Safe}

-- what arrives on a link takes no bytes
came_untaken : (link : ℕ) (brought : Happening) → bytes_pushed (event_on link brought) ≡ []
came_untaken link (happening.Back other bytes) = by (other.0 == link)
  where
    by : (b : Bool) → bytes_pushed (if b then Replied bytes ∷ [] else []) ≡ []
    by true = refl
    by false = refl
came_untaken link (happening.Broken other) = by (other.0 == link)
  where
    by : (b : Bool) → bytes_pushed (if b then LinkBroke ∷ [] else []) ≡ []
    by true = refl
    by false = refl
came_untaken link brought = refl

module _ (s : AllSettings) (n : Now) (whole : RunInvariant s n) (until paused : ℕ) (brought : Happening) (link : ℕ) (turn : Occurrence)
    (here : event_on link brought ≡ events_of_occurrence turn) (elsewhere : (other : ℕ) → link ≢ other → event_on other brought ≡ []) where
  abbrev waited : LoopEntry
  waited = entry (Wait until paused) brought

  abbrev now : Now
  now = asked (Wait until paused) brought n

  wait_gives_none : GivesNone (waited ∷ [])
  wait_gives_none to other (inl is) = is
  wait_gives_none to other (inr is) = is

  module _ (r : Route) (p : Progress) (on : route_on_link n.history link ≡ Some r) (flies : flight n.history r ≡ Some p) where
    abbrev delivers : Delivery
    delivers = delivery s n.history r

    module _ (xs : List LoopEntry) (q : Progress) (way : Execution (program_at delivers turn p) xs (Return q)) where
      spoke : AreOn link xs × StaysOn link (link_in q.stage) × (0 + all_closes xs ≡ closes_in (link_in q.stage))
      spoke = let id : LinkId = record { 0 = link } in speaks_way link 0 (program_at delivers turn p) (speaks_goes delivers p id turn (has_it s n whole.kept link r p on flies)) xs q way

      last : CloseIsLast xs
      last = let id : LinkId = record { 0 = link } in closes_last link 0 (program_at delivers turn p) (speaks_goes delivers p id turn (has_it s n whole.kept link r p on flies)) xs q way

      stood : ProgressRepresents delivers (since_dial link n.calls ++ (events_of_occurrence turn ++ events_of xs)) q
      stood = goes_law delivers turn (since_dial link n.calls) xs p q (flown_on s n whole.kept link r p on flies).stands way

      settle : (more : ℕ) → more ≡ length (bytes_pushed (events_of_occurrence turn ++ events_of xs)) → MayLogOutcome s r q (noted (Sent r.output more) (behind_all xs now))
      settle more so_many ys outcome aside comes =
          whole_as s (OnRoute r outcome ∷ (Sent r.output more ∷ n.history)) n.greatest (greatest_after n.greatest xs) (n.calls ++ ((waited ∷ xs) ++ ys)) (((n.calls ++ waited ∷ []) ++ xs) ++ ys)
          (sym (on_greatest link n.greatest xs spoke.0)) (sym calls_are)
          (record {
            kept = resumed s (noted (Sent r.output more) n) (kept_fact s (Sent r.output more) n tt whole.kept) link r p on flies ((waited ∷ xs) ++ ys) none (events_of_occurrence turn ++ events_of xs) here_now elsewhere_now q outcome comes spoke.1 stood;
            counted = counted_pushed n whole.counted ((waited ∷ xs) ++ ys) none r link (flown_on s n whole.kept link r p on flies).given outcome more
                (ap (λ (events : List Event). length (bytes_pushed events)) here_now ∙ sym so_many) elsewhere_now;
            closed = closed_landed (noted (Sent r.output more) n) (closed_fact (Sent r.output more) n tt whole.closed) ((waited ∷ xs) ++ ys) r outcome n.greatest link (omega arith)
                (whole.kept.known (dial_target n.history r) link mine_before.given) (λ to other is. absurd (none to other is)) shut_now
                (λ other apart. closes_neither other (waited ∷ xs) ys (waited_more other (closings_elsewhere link other xs spoke.0 apart)) (aside.unclosed other))
                (λ other apart. off_elsewhere q outcome link other comes spoke.1 apart) (λ other apart. flying_off n.history r p link other flies (has_it s n whole.kept link r p on flies) apart);
            opened = opened_now;
          })
        where
          calls_are : ((n.calls ++ waited ∷ []) ++ xs) ++ ys ≡ n.calls ++ ((waited ∷ xs) ++ ys)
          calls_are = append_assoc (n.calls ++ waited ∷ []) xs ys ∙ append_assoc n.calls (waited ∷ []) (xs ++ ys)

          none : GivesNone ((waited ∷ xs) ++ ys)
          none = gives_neither (waited ∷ xs) ys (gives_neither (waited ∷ []) xs wait_gives_none (on_gives_none link xs spoke.0)) aside.none

          here_now : all_on_link link ((waited ∷ xs) ++ ys) ≡ events_of_occurrence turn ++ events_of xs
          here_now = on_both link (waited ∷ xs) ys (aside.nothing link) ∙ rw (here, on_here link xs spoke.0) refl

          elsewhere_now : (other : ℕ) → link ≢ other → all_on_link other ((waited ∷ xs) ++ ys) ≡ []
          elsewhere_now other apart = on_both other (waited ∷ xs) ys (aside.nothing other) ∙ rw (elsewhere other apart, on_elsewhere link other xs spoke.0 apart) refl

          waited_more : (other : ℕ) → close_count other xs ≡ 0 → close_count other (waited ∷ xs) ≡ 0
          waited_more other none = omega (arith, none)

          mine_before : FlushState s n.calls n.history link r (begun n.history r) p
          mine_before = flown_on s n whole.kept link r p on flies

          ours : FlushState s (n.calls ++ ((waited ∷ xs) ++ ys)) (OnRoute r outcome ∷ (Sent r.output more ∷ n.history)) link r (begun n.history r) q
          ours =
              mine s (noted (Sent r.output more) n) (kept_fact s (Sent r.output more) n tt whole.kept) link r p on flies ((waited ∷ xs) ++ ys) none (events_of_occurrence turn ++ events_of xs) here_now elsewhere_now q outcome comes spoke.1 stood

          -- its link is open for its calls
          unclosed_before : close_count link n.calls ≡ 0
          unclosed_before = whole.closed.per (dial_target n.history r) link mine_before.given ∙ ap closed_by on

          opened_now : AreOnOpenLinks [] (n.calls ++ ((waited ∷ xs) ++ ys))
          opened_now =
              let before : close_count link n.calls ≡ 0 = unclosed_before in
              let all : close_count link (n.calls ++ waited ∷ []) ≡ close_count link n.calls + (0 + 0) = close_count-append link n.calls (waited ∷ []) in
              opened_flush n.calls waited xs ys link whole.opened tt
              (record { dialed = (dial_target n.history r, among_left (ReturnsLink (dial_target n.history r) link) n.calls (waited ∷ []) mine_before.given); unclosed = omega (arith, before, all) })
              spoke.0 last aside.nothing aside.unclosed

          -- it was closed as often as its flush closed it
          shut_now : close_count link (n.calls ++ ((waited ∷ xs) ++ ys)) ≡ closed_by (route_on_link (OnRoute r outcome ∷ (Sent r.output more ∷ n.history)) link)
          shut_now =
              let before : close_count link n.calls ≡ 0 = unclosed_before in
              let all : close_count link (n.calls ++ ((waited ∷ xs) ++ ys)) ≡ close_count link n.calls + close_count link ((waited ∷ xs) ++ ys) = close_count-append link n.calls ((waited ∷ xs) ++ ys) in
              let now_all : close_count link ((waited ∷ xs) ++ ys) ≡ close_count link (waited ∷ xs) + close_count link ys = close_count-append link (waited ∷ xs) ys in
              let aside_none : close_count link ys ≡ 0 = aside.unclosed link in
              let shut : close_count link xs ≡ all_closes xs = closings_here link xs spoke.0 in
              let so : 0 + all_closes xs ≡ closes_in (link_in q.stage) = spoke.2 in
              let at : closed_by (route_on_link (OnRoute r outcome ∷ (Sent r.output more ∷ n.history)) link) ≡ closes_in (link_in q.stage) = closed_at (OnRoute r outcome ∷ (Sent r.output more ∷ n.history)) link r (begun n.history r) q (link_in q.stage) ours.at in
              omega (arith, before, all, now_all, aside_none, shut, so, at)

      resumed_lands : Safe s (behind_all xs now) (notes_calls s r p.taken q n.history)
      resumed_lands =
          safe_lands s r q (behind_all xs now) p.taken (reached_at delivers (since_dial link n.calls ++ (events_of_occurrence turn ++ events_of xs)) q q.stage stood.at) (settle (q.taken - p.taken) so_many)
        where
          so_many : q.taken - p.taken ≡ length (bytes_pushed (events_of_occurrence turn ++ events_of xs))
          so_many =
              let before : p.taken ≡ length (bytes_pushed (since_dial link n.calls)) = (flown_on s n whole.kept link r p on flies).stands.counted in
              let after : q.taken ≡ length (bytes_pushed (since_dial link n.calls ++ (events_of_occurrence turn ++ events_of xs))) = stood.counted in
              let parts : length (bytes_pushed (since_dial link n.calls ++ (events_of_occurrence turn ++ events_of xs))) ≡ length (bytes_pushed (since_dial link n.calls)) + length (bytes_pushed (events_of_occurrence turn ++ events_of xs)) =
              ap length (bytes_pushed-append (since_dial link n.calls) (events_of_occurrence turn ++ events_of xs)) ∙ length-append (bytes_pushed (since_dial link n.calls)) (bytes_pushed (events_of_occurrence turn ++ events_of xs)) in
              omega (arith, before, after, parts)

    abbrev Went : Progress → Now → Type 0
    Went q m = (xs : List LoopEntry) × Execution (program_at delivers turn p) xs (Return q) × (m ≡ behind_all xs now)

    safe_flies : Safe s now (bind (on_loop (program_at delivers turn p)) (λ progress. notes_calls s r p.taken progress n.history))
    safe_flies =
        ends_bind Went (KeepsInvariant s) now (on_loop (program_at delivers turn p)) (λ progress. notes_calls s r p.taken progress n.history)
        (ends_loop Went now (program_at delivers turn p) (λ xs q way are. (xs, way, refl)))
        (λ q m went. subst (λ (x : Now). Safe s x (notes_calls s r p.taken q n.history)) (sym went.2) (resumed_lands went.0 q went.1))

  abbrev resuming : Option Route → Action History
  resuming o = resumes s (λ d p. on_loop (program_at d turn p)) o n.history

  safe_flight : (r : Route) → route_on_link n.history link ≡ Some r → (o : Option Progress) → flight n.history r ≡ o → Safe s now (resuming (Some r))
  safe_flight r on None is = absurd (cc (subst (λ (o : Option Progress). uses_link link o ≡ true) is (on_flies n.history link r on)))
  safe_flight r on (Some p) is = rw is (safe_flies r p on is)

  safe_on : (o : Option Route) → route_on_link n.history link ≡ o → Safe s now (resuming o)
  safe_on None off = (
    refl,
    record {
      kept = kept_unheard s n link turn off (waited ∷ []) wait_gives_none (append-nil (event_on link brought) ∙ here) (λ other apart. append-nil (event_on other brought) ∙ elsewhere other apart) whole.kept;
      counted = counted_aside n whole.counted (waited ∷ []) wait_gives_none (λ other. ap bytes_pushed (append-nil (event_on other brought)) ∙ came_untaken other brought);
      closed = closed_aside n whole.closed (waited ∷ []) wait_gives_none (λ other. refl);
      opened = opened_one n.calls waited whole.opened tt;
    },
  )
  safe_on (Some r) on = safe_flight r on (flight n.history r) refl

  pub safe_resumes : Safe s now (resuming (route_on_link n.history link))
  safe_resumes = safe_on (route_on_link n.history link) refl
