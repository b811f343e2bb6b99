-- What a flush of a run has sent, and its outcome.
use Rattle.std.specs.Prelude.{◌≡◌, ℕ, ◌==◌, ◌⊎◌, Bool, true, List, [], ◌∷◌, ◌++◌, length, Option, Some, None}
use Rattle.std.specs.List.{list_any}
use Rattle.fwd_event.specs.declared.event.Event.{Event}
use Rattle.fwd_outside.specs.Loop.{LoopEntry}
use Rattle.fwd_table.specs.declared.outcome.Answer.{Answer}
use Rattle.fwd_table.specs.declared.outcome.Answer.TheVariants.{Good, Retry, Bad}
use Rattle.fwd_flush.specs.FlushProgram.{Progress, Delivery, link_in}
use Rattle.fwd_flush.specs.Outcome.{bytes_pushed, flush_outcome}
use Rattle.fwd_settings.specs.declared.settings_types.AllSettings.{AllSettings}
use Rattle.fwd_model.specs.Fact.{Fact, History, Route, OnRoute, FlushStarted, Retries, Delivered, Failed, Exhausted}
use Rattle.fwd_model.specs.Settings.{output_at}
use Rattle.fwd_model.specs.Chunks.{ChunkInfo, chunks_of, is_closed}
use Rattle.fwd_model.specs.Routes.{route_on_link, begun}
use Rattle.fwd_model.specs.Payloads.{tag_of_chunk, delivery_at}
use Rattle.fwd_theorem_delivery.specs.Links.{DialTarget, WasDialled, DialWasRefused, since_dial, close_count}

-- a fact is in a history
abbrev pub IsLogged : Fact → History → Type 0
IsLogged fact [] = ⊥
IsLogged fact (other ∷ h) = (other ≡ fact) ⊎ IsLogged fact h

-- whether a chunk of this number was recovered or begun
abbrev pub was_opened : History → ℕ → Bool
was_opened h chunk = list_any (λ (c : ChunkInfo). c.number == chunk) (chunks_of h)

-- what a route's flush dials for
abbrev pub dial_target : History → Route → DialTarget
dial_target h r = record { output = r.output; tag = tag_of_chunk h r.chunk }

-- the delivery of a flush of a route with these events
abbrev pub delivers : AllSettings → History → Route → List Event → Delivery
delivers s h r events = delivery_at (output_at s r.output) (tag_of_chunk h r.chunk) r events

abbrev pub payload : AllSettings → History → Route → List Event → List ℕ
payload s h r events = (delivers s h r events).payload

-- the facts that log the answer of a route's flush
abbrev pub OutcomeIsLogged : History → Route → Answer → Type 0
OutcomeIsLogged h r Good = IsLogged (OnRoute r Delivered) h
OutcomeIsLogged h r Retry =
    ((word : ℕ) × IsLogged (OnRoute r (Retries word)) h) ⊎ IsLogged (OnRoute r Exhausted) h
OutcomeIsLogged h r Bad = IsLogged (OnRoute r Failed) h

-- the route's flush is in progress over this link, or its outcome is logged
abbrev pub IsTracked : History → ℕ → Route → Option Answer → Type 0
IsTracked h link r None = route_on_link h link ≡ Some r
IsTracked h link r (Some answer) = OutcomeIsLogged h r answer

-- how often a link is closed, by its outcome
abbrev pub closed_for : Option Answer → ℕ
closed_for None = 0
closed_for (Some answer) = 1

-- The bytes sent over this link are a prefix of the payload of its output for a flush of a closed chunk.
-- The history logs the outcome of what happened on the link. If there is one, the link was closed once.
pub record SendsPrefix (s : AllSettings) (h : History) (es : List LoopEntry) (to : DialTarget)
    (link : ℕ) : Type 0 where
  pub route : Route
  pub events : List Event
  pub is_for : dial_target h route ≡ to
  pub opened : was_opened h route.chunk ≡ true
  pub shut : is_closed h route.chunk ≡ true
  pub begun : IsLogged (OnRoute route (FlushStarted events)) h
  pub rest : List ℕ
  pub beginning : bytes_pushed (since_dial link es) ++ rest ≡ payload s h route events
  pub followed : IsTracked h link route (flush_outcome (delivers s h route events) (since_dial link es))
  pub closed : close_count link es
      ≡ closed_for (flush_outcome (delivers s h route events) (since_dial link es))

-- A link that was dialled for a flush of the route with these events has this outcome.
pub record HasOutcome (s : AllSettings) (h : History) (es : List LoopEntry) (r : Route) (events : List Event)
    (answer : Option Answer) (link : ℕ) : Type 0 where
  pub begun : IsLogged (OnRoute r (FlushStarted events)) h
  pub given : WasDialled (dial_target h r) link es
  pub answered : flush_outcome (delivers s h r events) (since_dial link es) ≡ answer

-- On one of its links the outcome is OK, and the whole payload was sent.
pub record SendsAll (s : AllSettings) (h : History) (es : List LoopEntry) (r : Route) : Type 0 where
  pub link : ℕ
  pub events : List Event
  pub good : HasOutcome s h es r events (Some Good) link
  pub whole : bytes_pushed (since_dial link es) ≡ payload s h r events

-- On one of its links the outcome is ERROR, by a wanted reply, and the whole payload was sent.
pub record IsRejected (s : AllSettings) (h : History) (es : List LoopEntry) (r : Route) : Type 0 where
  pub link : ℕ
  pub events : List Event
  pub bad : HasOutcome s h es r events (Some Bad) link
  pub wanted : (delivers s h r events).wanted ≡ true
  pub whole : bytes_pushed (since_dial link es) ≡ payload s h r events

-- The flush has this link, which has no outcome yet, and its count of taken bytes is what its pushes
-- took.
pub record IsInProgress (s : AllSettings) (h : History) (es : List LoopEntry) (r : Route)
    (p : Progress) : Type 0 where
  pub link : ℕ
  pub has : link_in p.stage ≡ Some (record { 0 = link })
  pub undecided : HasOutcome s h es r (begun h r) None link
  pub taken : p.taken ≡ length (bytes_pushed (since_dial link es))

-- a dial for it was refused, or a link of it has the outcome RETRY
abbrev pub HasRetryCause : AllSettings → History → List LoopEntry → Route → Type 0
HasRetryCause s h es r = DialWasRefused (dial_target h r) es
    ⊎ ((link : ℕ) × (events : List Event) × HasOutcome s h es r events (Some Retry) link)
