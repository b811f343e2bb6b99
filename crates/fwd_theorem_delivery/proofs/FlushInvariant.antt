-- What holds of all flushes at each point of a run.
use Rattle.std.proofs.Common.{◌≡◌, ◌≢◌, ℕ, ◌≤◌, ◌⊎◌, true, List, [], ◌∷◌, ◌++◌, Option, Some, None, inl, inr, refl, sym, ◌∙◌, ap, subst}
use Rattle.std.proofs.lemmas.List.{append-nil}
use Rattle.std.proofs.lemmas.Bool.{cases_eq}
use Rattle.fwd_base.specs.declared.ids.LinkId.{LinkId}
use Rattle.fwd_outside.specs.Loop.{LoopEntry}
use Rattle.fwd_table.specs.declared.outcome.Answer.{Answer}
use Rattle.fwd_table.specs.declared.outcome.Answer.TheVariants.{Good, Retry, Bad}
use Rattle.fwd_flush.specs.declared.stage.Stage.{Stage}
use Rattle.fwd_flush.specs.declared.stage.Stage.TheVariants.{Opening, Writing, AwaitingAck, Ended}
use Rattle.fwd_flush.specs.FlushProgram.{Progress, Delivery, link_in}
use Rattle.fwd_flush.specs.Outcome.{answer_in, Event, Occurrence, events_of_occurrence, IsAt, ProgressRepresents}
use Rattle.fwd_flush.proofs.Outcomes.{goes_law}
use Rattle.fwd_settings.specs.declared.settings_types.AllSettings.{AllSettings}
use Rattle.fwd_event.specs.declared.event.Event.{Event as LogEvent}
use Rattle.fwd_model.specs.Fact.{Fact, History, Route, OnRoute, Outcome, FlushStarted, InFlight, Retries, Delivered, Failed, Exhausted, Evicted}
use Rattle.fwd_model.specs.Chunks.{is_closed}
use Rattle.fwd_model.specs.Routes.{flight, begun, route_on_link}
use Rattle.fwd_theorem_delivery.specs.Links.{DialTarget, WasDialled, DialWasRefused, ReturnsLink, RefusesDial, all_on_link, since_dial}
use Rattle.fwd_theorem_delivery.specs.LinkOutcomes.{IsLogged, OutcomeIsLogged, was_opened, dial_target, delivers}
use Rattle.fwd_theorem_delivery.proofs.OwnEvents.{GivesNone, among_left, among_either, own_more}
use Rattle.fwd_theorem_delivery.proofs.LinkCalls.{rests}
use Rattle.fwd_theorem_delivery.proofs.ChunkFacts.{MayNote, AreBelow, opened_stays, shut_stays, still_below, aim_same, delivers_same}
use Rattle.fwd_theorem_delivery.proofs.Outcomes.{Now, noted}

-- a flush that has no link any more is on none; one that has this link is in progress, and is the one on
-- it
abbrev pub IsAtLink : History → ℕ → Route → List LogEvent → Progress → Option LinkId → Type 0
IsAtLink h link r events p None = route_on_link h link ≡ None
IsAtLink h link r events p (Some other) = (other.0 ≡ link) × (flight h r ≡ Some p) × (route_on_link h link ≡ Some r) × (begun h r ≡ events)

-- its outcome is logged
abbrev pub OutcomeIsLoggedIn : History → Route → Option Answer → Type 0
OutcomeIsLoggedIn h r None = Unit {0}
OutcomeIsLoggedIn h r (Some answer) = OutcomeIsLogged h r answer

-- a flush of this route got this link, and its state follows from what happened on it
pub record FlushState (s : AllSettings) (es : List LoopEntry) (h : History) (link : ℕ) (r : Route) (events : List LogEvent) (p : Progress) : Type 0 where
  pub begun_with : IsLogged (OnRoute r (FlushStarted events)) h
  pub given : WasDialled (dial_target h r) link es
  pub opened : was_opened h r.chunk ≡ true
  pub shut : is_closed h r.chunk ≡ true
  pub stands : ProgressRepresents (delivers s h r events) (since_dial link es) p
  pub at : IsAtLink h link r events p (link_in p.stage)
  pub logged : OutcomeIsLoggedIn h r (answer_in p.stage)

-- a flush of the route has ended with this outcome
pub record EndedBy (s : AllSettings) (es : List LoopEntry) (h : History) (r : Route) (answer : Answer) : Type 0 where
  pub link : ℕ
  pub events : List LogEvent
  pub progress : Progress
  pub ended : progress.stage ≡ Ended answer
  pub flown : FlushState s es h link r events progress

-- a dial for the route was refused
abbrev pub WasTurnedAway : List LoopEntry → History → Route → Type 0
WasTurnedAway es h r = (was_opened h r.chunk ≡ true) × DialWasRefused (dial_target h r) es

-- how an outcome came to be logged
abbrev pub CameBy : AllSettings → List LoopEntry → History → Route → Outcome → Type 0
CameBy s es h r (FlushStarted events) = Unit {0}
CameBy s es h r (InFlight p) = Unit {0}
CameBy s es h r (Retries word) = WasTurnedAway es h r ⊎ EndedBy s es h r Retry
CameBy s es h r Delivered = EndedBy s es h r Good
CameBy s es h r Failed = EndedBy s es h r Bad
CameBy s es h r Exhausted = WasTurnedAway es h r ⊎ EndedBy s es h r Retry
CameBy s es h r Evicted = Unit {0}

pub record Kept (s : AllSettings) (n : Now) : Type 0 where
  pub known : (to : DialTarget) (link : ℕ) → WasDialled to link n.calls → link ≤ n.greatest
  pub sound : AreBelow n.history
  pub each : (to : DialTarget) (link : ℕ) → WasDialled to link n.calls → (r : Route) × (events : List LogEvent) × (p : Progress) × (dial_target n.history r ≡ to) × FlushState s n.calls n.history link r events p
  pub under_way : (r : Route) (p : Progress) → flight n.history r ≡ Some p → (link : ℕ) × (events : List LogEvent) × (link_in p.stage ≡ Some (record { 0 = link })) × FlushState s n.calls n.history link r events p
  pub came : (r : Route) (outcome : Outcome) → IsLogged (OnRoute r outcome) n.history → CameBy s n.calls n.history r outcome

pub kept_first : (s : AllSettings) → Kept s (record { greatest = 0; calls = []; history = [] })
kept_first s = record {
  known = λ to link given. absurd given;
  sound = λ chunk is. absurd (cc is);
  each = λ to link given. absurd given;
  under_way = λ r p is. absurd (cc is);
  came = λ r outcome is. absurd is;
}

-- the same, for equal arguments
pub kept_as : (s : AllSettings) (h : History) (g g2 : ℕ) (es es2 : List LoopEntry) → g ≡ g2 → es ≡ es2
    → Kept s (record { greatest = g; calls = es; history = h }) → Kept s (record { greatest = g2; calls = es2; history = h })
kept_as s h g g2 es es2 same_g same_es kept =
    subst (λ (x : ℕ). Kept s (record { greatest = x; calls = es2; history = h })) same_g
    (subst (λ (x : List LoopEntry). Kept s (record { greatest = g; calls = x; history = h })) same_es kept)

-- a flush that has ended is carried along, and so is the cause of an outcome
module _ (s : AllSettings) (es es2 : List LoopEntry) (h h2 : History) (r : Route)
    (carried : (link : ℕ) (events : List LogEvent) (p : Progress) (answer : Answer) → p.stage ≡ Ended answer → FlushState s es h link r events p → FlushState s es2 h2 link r events p)
    (refused : WasTurnedAway es h r → WasTurnedAway es2 h2 r) where
  ended_through : (answer : Answer) → EndedBy s es h r answer → EndedBy s es2 h2 r answer
  ended_through answer by = record { link = by.link; events = by.events; progress = by.progress; ended = by.ended; flown = carried by.link by.events by.progress answer by.ended by.flown }

  failed_through : WasTurnedAway es h r ⊎ EndedBy s es h r Retry → WasTurnedAway es2 h2 r ⊎ EndedBy s es2 h2 r Retry
  failed_through (inl was) = inl (refused was)
  failed_through (inr by) = inr (ended_through Retry by)

  pub came_through : (outcome : Outcome) → CameBy s es h r outcome → CameBy s es2 h2 r outcome
  came_through (FlushStarted events) by = tt
  came_through (InFlight p) by = tt
  came_through (Retries word) by = failed_through by
  came_through Delivered by = ended_through Good by
  came_through Failed by = ended_through Bad by
  came_through Exhausted by = failed_through by
  came_through Evicted by = tt

-- ---- a fact that is about no route

flight_same : (fact : Fact) (h : History) (r : Route) → MayNote fact h → flight (fact ∷ h) r ≡ flight h r
flight_same (OnRoute other outcome) h r may = absurd may
flight_same fact h r may = refl

begun_same : (fact : Fact) (h : History) (r : Route) → MayNote fact h → begun (fact ∷ h) r ≡ begun h r
begun_same (OnRoute other outcome) h r may = absurd may
begun_same fact h r may = refl

pub on_same : (fact : Fact) (h : History) (link : ℕ) → MayNote fact h → route_on_link (fact ∷ h) link ≡ route_on_link h link
on_same (OnRoute other outcome) h link may = absurd may
on_same fact h link may = refl

at_same : (g h : History) (link : ℕ) (r : Route) (events : List LogEvent) (p : Progress) (o : Option LinkId) → flight g r ≡ flight h r → route_on_link g link ≡ route_on_link h link → begun g r ≡ begun h r
    → IsAtLink h link r events p o → IsAtLink g link r events p o
at_same g h link r events p None same_flight same_on same_begun at = same_on ∙ at
at_same g h link r events p (Some other) same_flight same_on same_begun at = (at.0, same_flight ∙ at.1, same_on ∙ at.2, same_begun ∙ at.3)

-- logged facts stay
told_still : (fact : Fact) (h : History) (r : Route) (answer : Answer) → OutcomeIsLogged h r answer → OutcomeIsLogged (fact ∷ h) r answer
told_still fact h r Good logged = inr logged
told_still fact h r Retry (inl logged) = inl (logged.0, inr logged.1)
told_still fact h r Retry (inr logged) = inr (inr logged)
told_still fact h r Bad logged = inr logged

pub told_stays : (fact : Fact) (h : History) (r : Route) (answer : Option Answer) → OutcomeIsLoggedIn h r answer → OutcomeIsLoggedIn (fact ∷ h) r answer
told_stays fact h r None logged = tt
told_stays fact h r (Some answer) logged = told_still fact h r answer logged

turned_away_fact : (fact : Fact) (es : List LoopEntry) (h : History) (r : Route) → WasTurnedAway es h r → WasTurnedAway es (fact ∷ h) r
turned_away_fact fact es h r was = (opened_stays fact h r.chunk was.0, subst (λ (to : DialTarget). DialWasRefused to es) (sym (aim_same fact h r was.0)) was.1)

flown_fact : (s : AllSettings) (fact : Fact) (es : List LoopEntry) (h : History) → MayNote fact h → (link : ℕ) (r : Route) (events : List LogEvent) (p : Progress) → FlushState s es h link r events p → FlushState s es (fact ∷ h) link r events p
flown_fact s fact es h may link r events p flown = record {
  begun_with = inr flown.begun_with;
  given = subst (λ (to : DialTarget). WasDialled to link es) (sym (aim_same fact h r flown.opened)) flown.given;
  opened = opened_stays fact h r.chunk flown.opened;
  shut = shut_stays fact h r.chunk flown.shut;
  stands = subst (λ (d : Delivery). ProgressRepresents d (since_dial link es) p) (sym (delivers_same s fact h r events flown.opened)) flown.stands;
  at = at_same (fact ∷ h) h link r events p (link_in p.stage) (flight_same fact h r may) (on_same fact h link may) (begun_same fact h r may) flown.at;
  logged = told_stays fact h r (answer_in p.stage) flown.logged;
}

noted_before : (fact : Fact) (h : History) (r : Route) (outcome : Outcome) → MayNote fact h → IsLogged (OnRoute r outcome) (fact ∷ h) → IsLogged (OnRoute r outcome) h
noted_before fact h r outcome may (inl here) = absurd (subst (λ (f : Fact). MayNote f h) here may)
noted_before fact h r outcome may (inr there) = there

pub kept_fact : (s : AllSettings) (fact : Fact) (n : Now) → MayNote fact n.history → Kept s n → Kept s (noted fact n)
kept_fact s fact n may kept = record {
  known = kept.known;
  sound = still_below fact n.history may kept.sound;
  each = λ to link given.
      let e = kept.each to link given in
      (e.0, e.1, e.2, aim_same fact n.history e.0 e.4.opened ∙ e.3, flown_fact s fact n.calls n.history may link e.0 e.1 e.2 e.4);
  under_way = λ r p is.
      let e = kept.under_way r p (sym (flight_same fact n.history r may) ∙ is) in
      (e.0, e.1, e.2, flown_fact s fact n.calls n.history may e.0 r e.1 p e.3);
  came = λ r outcome is.
      came_through s n.calls n.calls n.history (fact ∷ n.history) r (λ link events p answer ended flown. flown_fact s fact n.calls n.history may link r events p flown) (turned_away_fact fact n.calls n.history r)
      outcome (kept.came r outcome (noted_before fact n.history r outcome may is));
}

-- ---- calls that concern no flush

module _ (s : AllSettings) (n : Now) (kept : Kept s n) (ys : List LoopEntry) (none : GivesNone ys)
    (stood : (link : ℕ) (r : Route) (events : List LogEvent) (p : Progress) → FlushState s n.calls n.history link r events p → ProgressRepresents (delivers s n.history r events) (since_dial link n.calls ++ all_on_link link ys) p) where
  flown_calls : (link : ℕ) (r : Route) (events : List LogEvent) (p : Progress) → FlushState s n.calls n.history link r events p → FlushState s (n.calls ++ ys) n.history link r events p
  flown_calls link r events p flown = record {
    begun_with = flown.begun_with;
    given = among_left (ReturnsLink (dial_target n.history r) link) n.calls ys flown.given;
    opened = flown.opened;
    shut = flown.shut;
    stands = subst (λ (l : List Event). ProgressRepresents (delivers s n.history r events) l p) (sym (own_more (dial_target n.history r) link n.calls ys flown.given)) (stood link r events p flown);
    at = flown.at;
    logged = flown.logged;
  }

  before : (to : DialTarget) (link : ℕ) → WasDialled to link (n.calls ++ ys) → WasDialled to link n.calls
  before to link given = elim (among_either (ReturnsLink to link) n.calls ys given) [ inl was ↦ was | inr new ↦ absurd (none to link new) ]

  pub kept_calls : Kept s (record { greatest = n.greatest; calls = n.calls ++ ys; history = n.history })
  kept_calls = record {
    known = λ to link given. kept.known to link (before to link given);
    sound = kept.sound;
    each = λ to link given.
        let e = kept.each to link (before to link given) in
        (e.0, e.1, e.2, e.3, flown_calls link e.0 e.1 e.2 e.4);
    under_way = λ r p is.
        let e = kept.under_way r p is in
        (e.0, e.1, e.2, flown_calls e.0 r e.1 p e.3);
    came = λ r outcome is.
        came_through s n.calls (n.calls ++ ys) n.history n.history r (λ link events p answer ended flown. flown_calls link r events p flown) (λ was. (was.0, among_left (RefusesDial (dial_target n.history r)) n.calls ys was.1))
        outcome (kept.came r outcome is);
  }

-- calls that aren't on any link
pub kept_aside : (s : AllSettings) (n : Now) (ys : List LoopEntry) → GivesNone ys → ((link : ℕ) → all_on_link link ys ≡ []) → Kept s n
    → Kept s (record { greatest = n.greatest; calls = n.calls ++ ys; history = n.history })
kept_aside s n ys none nothing kept =
    kept_calls s n kept ys none (λ link r events p flown. subst (λ (l : List Event). ProgressRepresents (delivers s n.history r events) l p) (sym (ap (λ (l : List Event). since_dial link n.calls ++ l) (nothing link) ∙ append-nil (since_dial link n.calls))) flown.stands)

-- something arrives on a link that no flush has
module _ (s : AllSettings) (n : Now) (link : ℕ) (turn : Occurrence) (off : route_on_link n.history link ≡ None) where
  heard_at : (r : Route) (events : List LogEvent) (p : Progress) → FlushState s n.calls n.history link r events p → (stage : Stage) → p.stage ≡ stage → ProgressRepresents (delivers s n.history r events) (since_dial link n.calls ++ events_of_occurrence turn) p
  heard_at r events p flown Opening is = absurd (subst (λ (x : Stage). IsAt (delivers s n.history r events) (since_dial link n.calls) p x) is flown.stands.at)
  heard_at r events p flown (Writing other) is = let at = subst (λ (x : Stage). IsAtLink n.history link r events p (link_in x)) is flown.at in absurd (cc (sym off ∙ at.2))
  heard_at r events p flown (AwaitingAck other) is = let at = subst (λ (x : Stage). IsAtLink n.history link r events p (link_in x)) is flown.at in absurd (cc (sym off ∙ at.2))
  heard_at r events p flown (Ended answer) is =
      let d = delivers s n.history r events in
      let stood : ProgressRepresents d (since_dial link n.calls ++ (events_of_occurrence turn ++ [])) p = goes_law d turn (since_dial link n.calls) [] p p flown.stands (sym (rests d p turn answer is)) in
      subst (λ (more : List Event). ProgressRepresents d (since_dial link n.calls ++ more) p) (append-nil (events_of_occurrence turn)) stood

  pub kept_unheard : (ys : List LoopEntry) → GivesNone ys → all_on_link link ys ≡ events_of_occurrence turn → ((other : ℕ) → link ≢ other → all_on_link other ys ≡ []) → Kept s n
      → Kept s (record { greatest = n.greatest; calls = n.calls ++ ys; history = n.history })
  kept_unheard ys none here elsewhere kept = kept_calls s n kept ys none stood
    where
      stood : (other : ℕ) (r : Route) (events : List LogEvent) (p : Progress) → FlushState s n.calls n.history other r events p → ProgressRepresents (delivers s n.history r events) (since_dial other n.calls ++ all_on_link other ys) p
      stood other r events p flown = elim (cases_eq link other) [
        | inl same ↦
            subst (λ (l : ℕ). FlushState s n.calls n.history l r events p → ProgressRepresents (delivers s n.history r events) (since_dial l n.calls ++ all_on_link l ys) p) same
            (λ f. subst (λ (more : List Event). ProgressRepresents (delivers s n.history r events) (since_dial link n.calls ++ more) p) (sym here) (heard_at r events p f p.stage refl)) flown
        | inr apart ↦
            subst (λ (more : List Event). ProgressRepresents (delivers s n.history r events) more p) (sym (ap (λ (l : List Event). since_dial other n.calls ++ l) (elsewhere other apart) ∙ append-nil (since_dial other n.calls))) flown.stands
      ]
