-- A flush gets an outcome: the effect on all flushes.
use Rattle.std.proofs.Common.{◌≡◌, ◌≢◌, ℕ, ◌≤◌, ◌⊎◌, true, false, List, [], ◌∷◌, ◌++◌, Option, Some, None, inl, inr, refl, sym, ◌∙◌, ap, subst}
use Rattle.std.specs.Prelude.{◌==◌}
use Rattle.std.proofs.lemmas.Bool.{cases_Bool, cases_eq, and_parts, eq-eqb, ne_eqb, eqb-true}
use Rattle.fwd_base.specs.declared.ids.LinkId.{LinkId}
use Rattle.fwd_outside.specs.Loop.{LoopEntry}
use Rattle.fwd_table.specs.declared.outcome.Answer.{Answer}
use Rattle.fwd_table.specs.declared.outcome.Answer.TheVariants.{Good, Retry, Bad}
use Rattle.fwd_flush.specs.declared.stage.Stage.{Stage}
use Rattle.fwd_flush.specs.declared.stage.Stage.TheVariants.{Opening, Writing, AwaitingAck, Ended}
use Rattle.fwd_flush.specs.FlushProgram.{Progress, link_in}
use Rattle.fwd_flush.specs.Outcome.{answer_in, Event, ProgressRepresents}
use Rattle.fwd_settings.specs.declared.settings_types.AllSettings.{AllSettings}
use Rattle.fwd_event.specs.declared.event.Event.{Event as LogEvent}
use Rattle.fwd_model.specs.Fact.{History, Route, OnRoute, Outcome, FlushStarted, InFlight, Retries, Delivered, Failed, Exhausted, Evicted}
use Rattle.fwd_model.specs.Chunks.{is_closed}
use Rattle.fwd_model.specs.Routes.{same_route, flight, progress_of, events_begun, begun, is_link, uses_link, other_than, route_on_link}
use Rattle.fwd_theorem_delivery.specs.Links.{DialTarget, WasDialled, ReturnsLink, RefusesDial, since_dial}
use Rattle.fwd_theorem_delivery.specs.LinkOutcomes.{IsLogged, was_opened, dial_target, delivers}
use Rattle.fwd_theorem_delivery.proofs.OwnEvents.{among_left, among_either}
use Rattle.fwd_theorem_delivery.proofs.LinkCalls.{StaysOn}
use Rattle.fwd_theorem_delivery.proofs.Outcomes.{Now}
use Rattle.fwd_theorem_delivery.proofs.FlushInvariant.{IsAtLink, OutcomeIsLoggedIn, told_stays, FlushState, EndedBy, CameBy, Kept, came_through}

-- what an outcome says of the progress of the flush, and of the answer
abbrev pub progress_after : Progress → Option LinkId → Option Progress
progress_after q None = None
progress_after q (Some link) = Some q

abbrev pub IsAnswered : Stage → Outcome → Type 0
IsAnswered stage (FlushStarted events) = ⊥
IsAnswered stage (InFlight p) = Unit {0}
IsAnswered stage (Retries word) = stage ≡ Ended Retry
IsAnswered stage Delivered = stage ≡ Ended Good
IsAnswered stage Failed = stage ≡ Ended Bad
IsAnswered stage Exhausted = stage ≡ Ended Retry
IsAnswered stage Evicted = ⊥

pub record Comes (q : Progress) (outcome : Outcome) : Type 0 where
  pub flying : progress_of outcome ≡ progress_after q (link_in q.stage)
  pub answered : IsAnswered q.stage outcome

-- no flush begins by it
same_begun : (q : Progress) (outcome : Outcome) (events : List LogEvent) → Comes q outcome → events_begun outcome events ≡ events
same_begun q (FlushStarted more) events comes = absurd comes.answered
same_begun q outcome events comes = refl

pub same_self : (r : Route) → same_route r r ≡ true
same_self r = rw (eq-eqb r.chunk r.chunk refl, eq-eqb r.output r.output refl) refl

-- routes that compare equal are equal
pub same : (a b : Route) → same_route a b ≡ true → a ≡ b
same a b is =
    let parts = and_parts (a.chunk == b.chunk) (a.output == b.output) is in
    λ i. record { chunk = eqb-true a.chunk b.chunk parts.0 i; output = eqb-true a.output b.output parts.1 i }

-- the route on a link has a flush with this link
flies_still : (h : History) (link : ℕ) (r other : Route) (outcome : Outcome) → (route_on_link h link ≡ Some r → uses_link link (flight h r) ≡ true)
    → (o : Option Route) → route_on_link h link ≡ o → other_than other o ≡ Some r → uses_link link (flight (OnRoute other outcome ∷ h) r) ≡ true
flies_still h link r other outcome before None was now = absurd (cc now)
flies_still h link r other outcome before (Some x) was now = elim (cases_Bool (same_route other x)) [
  | inl this ↦ let none : None ≡ Some r = rw this at now in absurd (cc none)
  | inr differs ↦
      let e : x ≡ r = let now2 : Some x ≡ Some r = rw differs at now in cc now2 in
      let apart : same_route other r ≡ false = subst (λ (y : Route). same_route other y ≡ false) e differs in
      rw apart (before (was ∙ ap (λ (y : Route). Some y) e))
]

pub on_flies : (h : History) (link : ℕ) (r : Route) → route_on_link h link ≡ Some r → uses_link link (flight h r) ≡ true
on_flies [] link r is = absurd (cc is)
on_flies (OnRoute other outcome ∷ h) link r is = elim (cases_Bool (uses_link link (progress_of outcome))) [
  | inl on ↦
      let e : other ≡ r = let is2 : Some other ≡ Some r = rw on at is in cc is2 in
      subst (λ (x : Route). uses_link link (flight (OnRoute other outcome ∷ h) x) ≡ true) e (rw (same_self other) on)
  | inr off ↦ flies_still h link r other outcome (on_flies h link r) (route_on_link h link) refl (rw off at is)
]
on_flies (fact ∷ h) link r is = on_flies h link r is

pub linked : (link : ℕ) (o : Option LinkId) → is_link link o ≡ true → o ≡ Some (record { 0 = link })
linked link None is = absurd (cc is)
linked link (Some x) is = λ i. Some (record { 0 = eqb-true x.0 link is i })

-- the outcome of the flush is logged
told_by : (h : History) (r : Route) (q : Progress) (o : Outcome) → Comes q o → (stage : Stage) → q.stage ≡ stage → OutcomeIsLoggedIn (OnRoute r o ∷ h) r (answer_in stage)
told_by h r q o comes Opening is = tt
told_by h r q o comes (Writing link) is = tt
told_by h r q o comes (AwaitingAck link) is = tt
told_by h r q (FlushStarted events) comes (Ended answer) is = absurd comes.answered
told_by h r q Evicted comes (Ended answer) is = absurd comes.answered
told_by h r q (InFlight p) comes (Ended answer) is = let none : Some p ≡ None = comes.flying ∙ ap (λ (stage : Stage). progress_after q (link_in stage)) is in absurd (cc none)
told_by h r q Delivered comes (Ended Good) is = inl refl
told_by h r q Failed comes (Ended Bad) is = inl refl
told_by h r q (Retries word) comes (Ended Retry) is = inl (word, inl refl)
told_by h r q Exhausted comes (Ended Retry) is = inr (inl refl)
told_by h r q (Retries word) comes (Ended answer) is = let both : Ended answer ≡ Ended Retry = sym is ∙ comes.answered in absurd (cc both)
told_by h r q Delivered comes (Ended answer) is = let both : Ended answer ≡ Ended Good = sym is ∙ comes.answered in absurd (cc both)
told_by h r q Failed comes (Ended answer) is = let both : Ended answer ≡ Ended Bad = sym is ∙ comes.answered in absurd (cc both)
told_by h r q Exhausted comes (Ended answer) is = let both : Ended answer ≡ Ended Retry = sym is ∙ comes.answered in absurd (cc both)

-- the outcome is on no other link
pub off_elsewhere : (q : Progress) (outcome : Outcome) (link other : ℕ) → Comes q outcome → StaysOn link (link_in q.stage) → link ≢ other → uses_link other (progress_of outcome) ≡ false
off_elsewhere q outcome link other comes stays apart = by (link_in q.stage) refl comes.flying stays
  where
    by : (o : Option LinkId) → link_in q.stage ≡ o → progress_of outcome ≡ progress_after q o → StaysOn link o → uses_link other (progress_of outcome) ≡ false
    by None is flying on = rw flying refl
    by (Some x) is flying on = rw (flying, is) (ne_eqb x.0 other (λ e. apart (sym on ∙ e)))

module _ (s : AllSettings) (es es2 : List LoopEntry) (h : History) (r : Route) (outcome : Outcome) where
  -- a flush on another link
  pub other_flown : (link : ℕ) (r2 : Route) (events : List LogEvent) (p2 : Progress) → FlushState s es h link r2 events p2 → WasDialled (dial_target h r2) link es2 → since_dial link es2 ≡ since_dial link es → uses_link link (progress_of outcome) ≡ false
      → ((p : Progress) (x : LinkId) → flight h r ≡ Some p → link_in p.stage ≡ Some x → x.0 ≢ link) → FlushState s es2 (OnRoute r outcome ∷ h) link r2 events p2
  other_flown link r2 events p2 flown given owned off lone = record {
    begun_with = inr flown.begun_with;
    given = given;
    opened = flown.opened;
    shut = flown.shut;
    stands = subst (λ (l : List Event). ProgressRepresents (delivers s h r2 events) l p2) (sym owned) flown.stands;
    at = at_other (link_in p2.stage) refl flown.at;
    logged = told_stays (OnRoute r outcome) h r2 (answer_in p2.stage) flown.logged;
  }
    where
      at_other : (o : Option LinkId) → link_in p2.stage ≡ o → IsAtLink h link r2 events p2 o → IsAtLink (OnRoute r outcome ∷ h) link r2 events p2 o
      at_other None is at = rw (off, at) refl
      at_other (Some x) is at = elim (cases_Bool (same_route r r2)) [
        | inl this ↦ absurd (lone p2 x (ap (flight h) (same r r2 this) ∙ at.1) is at.0)
        | inr differs ↦ (at.0, rw differs at.1, rw (off, at.2, differs) refl, rw differs at.3)
      ]

  freed : (o : Option Route) → (o ≡ Some r) ⊎ (o ≡ None) → other_than r o ≡ None
  freed o (inl is) = rw (is, same_self r) refl
  freed o (inr is) = rw is refl

  -- its own
  pub own_flown : (link : ℕ) (events : List LogEvent) (q : Progress) → IsLogged (OnRoute r (FlushStarted events)) h → begun h r ≡ events
      → WasDialled (dial_target h r) link es2 → was_opened h r.chunk ≡ true → is_closed h r.chunk ≡ true → ProgressRepresents (delivers s h r events) (since_dial link es2) q
      → Comes q outcome → StaysOn link (link_in q.stage) → (route_on_link h link ≡ Some r) ⊎ (route_on_link h link ≡ None) → FlushState s es2 (OnRoute r outcome ∷ h) link r events q
  own_flown link events q begun_with last given opened shut stands comes stays was = record {
    begun_with = inr begun_with;
    given = given;
    opened = opened;
    shut = shut;
    stands = stands;
    at = own_at (link_in q.stage) refl comes.flying stays;
    logged = told_by h r q outcome comes q.stage refl;
  }
    where
      own_at : (o : Option LinkId) → link_in q.stage ≡ o → progress_of outcome ≡ progress_after q o → StaysOn link o → IsAtLink (OnRoute r outcome ∷ h) link r events q o
      own_at None is flying on = rw flying (freed (route_on_link h link) was)
      own_at (Some x) is flying on = (on, rw (same_self r, flying) refl, rw (flying, is, eq-eqb x.0 link on) refl, rw (same_self r) (same_begun q outcome (begun h r) comes ∙ last))

-- The flush of r, on this link, gets an outcome; all others are carried along.
module _ (s : AllSettings) (n : Now) (kept : Kept s n) (ys : List LoopEntry) (greatest link : ℕ) (r : Route) (events : List LogEvent) (q : Progress) (outcome : Outcome) (comes : Comes q outcome) (stays : StaysOn link (link_in q.stage))
    (known : (to : DialTarget) (other : ℕ) → WasDialled to other (n.calls ++ ys) → other ≤ greatest)
    (whose : (r2 : Route) (events2 : List LogEvent) (p2 : Progress) → FlushState s n.calls n.history link r2 events2 p2 → (r ≡ r2) × (link_in p2.stage ≡ None → ⊥))
    (given : (to : DialTarget) (other : ℕ) → WasDialled to other ys → (link ≡ other) × (dial_target n.history r ≡ to))
    (others : (other : ℕ) (r2 : Route) (events2 : List LogEvent) (p2 : Progress) → link ≢ other → FlushState s n.calls n.history other r2 events2 p2 → FlushState s (n.calls ++ ys) (OnRoute r outcome ∷ n.history) other r2 events2 p2)
    (mine : FlushState s (n.calls ++ ys) (OnRoute r outcome ∷ n.history) link r events q) where
  abbrev es2 : List LoopEntry
  es2 = n.calls ++ ys

  abbrev h2 : History
  h2 = OnRoute r outcome ∷ n.history

  abbrev HasFlushed : DialTarget → ℕ → Type 0
  HasFlushed to other = (r2 : Route) × (events2 : List LogEvent) × (p2 : Progress) × (dial_target h2 r2 ≡ to) × FlushState s es2 h2 other r2 events2 p2

  each_before : (to : DialTarget) (other : ℕ) → WasDialled to other n.calls → HasFlushed to other
  each_before to other was = elim (cases_eq link other) [
    | inl this ↦ subst (λ (l : ℕ). HasFlushed to l) this (at_mine (kept.each to link (subst (λ (l : ℕ). WasDialled to l n.calls) (sym this) was)))
    | inr apart ↦ let e = kept.each to other was in (e.0, e.1, e.2, e.3, others other e.0 e.1 e.2 apart e.4)
  ]
    where
      at_mine : (r2 : Route) × (events2 : List LogEvent) × (p2 : Progress) × (dial_target n.history r2 ≡ to) × FlushState s n.calls n.history link r2 events2 p2 → HasFlushed to link
      at_mine e = (r, events, q, ap (dial_target n.history) (whose e.0 e.1 e.2 e.4).0 ∙ e.3, mine)

  each_now : (to : DialTarget) (other : ℕ) → WasDialled to other es2 → HasFlushed to other
  each_now to other is = elim (among_either (ReturnsLink to other) n.calls ys is) [
    | inl was ↦ each_before to other was
    | inr new ↦ let g = given to other new in subst (λ (l : ℕ). HasFlushed to l) g.0 (r, events, q, g.1, mine)
  ]

  abbrev IsUp : Route → Progress → Type 0
  IsUp r2 p2 = (other : ℕ) × (events2 : List LogEvent) × (link_in p2.stage ≡ Some (record { 0 = other })) × FlushState s es2 h2 other r2 events2 p2

  up_mine : (p2 : Progress) → progress_of outcome ≡ Some p2 → IsUp r p2
  up_mine p2 is = by (link_in q.stage) refl (sym is ∙ comes.flying) stays
    where
      by : (o : Option LinkId) → link_in q.stage ≡ o → Some p2 ≡ progress_after q o → StaysOn link o → IsUp r p2
      by None has flying on = absurd (cc flying)
      by (Some x) has flying on =
          let e : q ≡ p2 = cc flying in
          subst (λ (y : Progress). IsUp r y) e (link, events, has ∙ (λ i. Some (record { 0 = on i })), mine)

  up_other : (r2 : Route) (p2 : Progress) → same_route r r2 ≡ false → flight n.history r2 ≡ Some p2 → IsUp r2 p2
  up_other r2 p2 differs is = elim (cases_eq link (kept.under_way r2 p2 is).0) [
    | inl this ↦ absurd (clash (kept.under_way r2 p2 is).1 (subst (λ (l : ℕ). FlushState s n.calls n.history l r2 (kept.under_way r2 p2 is).1 p2) (sym this) (kept.under_way r2 p2 is).3))
    | inr apart ↦ let e = kept.under_way r2 p2 is in (e.0, e.1, e.2, others e.0 r2 e.1 p2 apart e.3)
  ]
    where
      clash : (events2 : List LogEvent) → FlushState s n.calls n.history link r2 events2 p2 → ⊥
      clash events2 flown = let self : same_route r r2 ≡ true = subst (λ (x : Route). same_route r x ≡ true) (whose r2 events2 p2 flown).0 (same_self r) in absurd (cc (sym differs ∙ self))

  up_now : (r2 : Route) (p2 : Progress) → flight h2 r2 ≡ Some p2 → IsUp r2 p2
  up_now r2 p2 is = elim (cases_Bool (same_route r r2)) [
    | inl this ↦ subst (λ (x : Route). IsUp x p2) (same r r2 this) (up_mine p2 (rw this at is))
    | inr differs ↦ up_other r2 p2 differs (rw differs at is)
  ]

  by_answer : (answer : Answer) → q.stage ≡ Ended answer → EndedBy s es2 h2 r answer
  by_answer answer is = record { link = link; events = events; progress = q; ended = is; flown = mine }

  came_mine : (o : Outcome) → IsAnswered q.stage o → CameBy s es2 h2 r o
  came_mine (FlushStarted more) is = tt
  came_mine (InFlight p) is = tt
  came_mine (Retries word) is = inr (by_answer Retry is)
  came_mine Delivered is = by_answer Good is
  came_mine Failed is = by_answer Bad is
  came_mine Exhausted is = inr (by_answer Retry is)
  came_mine Evicted is = tt

  carried : (r2 : Route) (other : ℕ) (events2 : List LogEvent) (p2 : Progress) (answer : Answer) → p2.stage ≡ Ended answer → FlushState s n.calls n.history other r2 events2 p2 → FlushState s es2 h2 other r2 events2 p2
  carried r2 other events2 p2 answer ended flown = elim (cases_eq link other) [
    | inl this ↦ absurd ((whose r2 events2 p2 (subst (λ (l : ℕ). FlushState s n.calls n.history l r2 events2 p2) (sym this) flown)).1 (ap link_in ended))
    | inr apart ↦ others other r2 events2 p2 apart flown
  ]

  came_now : (r2 : Route) (o : Outcome) → IsLogged (OnRoute r2 o) h2 → CameBy s es2 h2 r2 o
  came_now r2 o (inl here) =
      let route_is : r ≡ r2 = cc here in
      let outcome_is : outcome ≡ o = cc here in
      subst (λ (x : Route). CameBy s es2 h2 x o) route_is (subst (λ (x : Outcome). CameBy s es2 h2 r x) outcome_is (came_mine outcome comes.answered))
  came_now r2 o (inr there) =
      came_through s n.calls es2 n.history h2 r2 (carried r2) (λ was. (was.0, among_left (RefusesDial (dial_target n.history r2)) n.calls ys was.1)) o (kept.came r2 o there)

  pub landed : Kept s (record { greatest = greatest; calls = n.calls ++ ys; history = OnRoute r outcome ∷ n.history })
  landed = record { known = known; sound = kept.sound; each = each_now; under_way = up_now; came = came_now }
