-- The theorems, from what holds at the end of a run.
use Rattle.std.proofs.Common.{◌≡◌, ℕ, ◌⊎◌, inl, inr, List, [], ◌∷◌, ◌++◌, length, length-append, ◌-◌, ◌^◌, min, Option, Some, None, refl, sym, ◌∙◌, ap, subst, arith}
use Rattle.std.proofs.lemmas.List.{append-nil}
use Rattle.fwd_outside.specs.Program.{Return, Execution}
use Rattle.fwd_base.specs.declared.ids.LinkId.{LinkId}
use Rattle.fwd_outside.specs.Loop.{LoopEntry}
use Rattle.fwd_outside.specs.declared.ends.Ends.{Ends}
use Rattle.fwd_outside.specs.NewLinks.{AreNewLinks}
use Rattle.fwd_table.specs.declared.outcome.Answer.{Answer}
use Rattle.fwd_table.specs.declared.outcome.Answer.TheVariants.{Good, Retry, Bad}
use Rattle.fwd_flush.specs.declared.stage.Stage.{Stage}
use Rattle.fwd_flush.specs.declared.stage.Stage.TheVariants.{Opening, Writing, AwaitingAck, Ended}
use Rattle.fwd_flush.specs.FlushProgram.{Progress, link_in}
use Rattle.fwd_flush.specs.Outcome.{bytes_pushed, answer_in, IsAt}
use Rattle.fwd_settings.specs.declared.settings_types.AllSettings.{AllSettings}
use Rattle.fwd_event.specs.declared.event.Event.{Event as LogEvent}
use Rattle.fwd_model.specs.Fact.{History, Route}
use Rattle.fwd_model.specs.Trace.{TraceEntry, loop_part}
use Rattle.fwd_model.specs.Routes.{flight, begun}
use Rattle.fwd_model.specs.Run.{RunResult, life}
use Rattle.fwd_theorem_delivery.specs.Links.{DialTarget, WasDialled, since_dial, close_count}
use Rattle.fwd_theorem_delivery.specs.LinkOutcomes.{delivers, payload, IsTracked, closed_for, HasOutcome, SendsPrefix, SendsAll, IsRejected, IsInProgress, HasRetryCause}
use Rattle.fwd_model.specs.Counters.{taken}
use Rattle.fwd_theorem_delivery.specs.TakenBytes.{links_of, taken_over}
use Rattle.fwd_theorem_delivery.proofs.Counts.{stands_still}
use Rattle.fwd_theorem_delivery.proofs.RunInvariant.{RunInvariant}
use Rattle.fwd_theorem_delivery.proofs.LinkCalls.{closes_in}
use Rattle.fwd_theorem_delivery.proofs.LinkClosures.{Closed, closed_at}
use Rattle.fwd_theorem_delivery.proofs.Outcomes.{EndsAt, ends_way}
use Rattle.fwd_theorem_delivery.proofs.FlushInvariant.{IsAtLink, OutcomeIsLoggedIn, WasTurnedAway, FlushState, EndedBy, Kept}
use Rattle.fwd_theorem_delivery.proofs.FlushRun.{IsLived, lives_life}

-- a run and its final state
pub whole_at_end : (s : AllSettings) (ends : Ends) (ticks : Option ℕ) (turns : ℕ) (trace : List TraceEntry) (lived : RunResult) → Execution (life s ends ticks turns) trace (Return lived) → AreNewLinks 0 (loop_part trace)
    → (greatest : ℕ) × RunInvariant s (record { greatest = greatest; calls = loop_part trace; history = lived.history })
whole_at_end s ends ticks turns trace lived way are = (at.last.greatest, subst (λ (h : History). RunInvariant s (record { greatest = at.last.greatest; calls = loop_part trace; history = h })) (sym at.holds.0) with_calls)
  where
    at : EndsAt (IsLived s) (record { greatest = 0; calls = []; history = [] }) trace lived
    at = ends_way (IsLived s) (record { greatest = 0; calls = []; history = [] }) (life s ends ticks turns) (lives_life s ends ticks turns) trace lived way are

    with_calls : RunInvariant s (record { greatest = at.last.greatest; calls = loop_part trace; history = at.last.history })
    with_calls = subst (λ (es : List LoopEntry). RunInvariant s (record { greatest = at.last.greatest; calls = es; history = at.last.history })) at.calls at.holds.1

pub kept_at_end : (s : AllSettings) (ends : Ends) (ticks : Option ℕ) (turns : ℕ) (trace : List TraceEntry) (lived : RunResult) → Execution (life s ends ticks turns) trace (Return lived) → AreNewLinks 0 (loop_part trace)
    → (greatest : ℕ) × Kept s (record { greatest = greatest; calls = loop_part trace; history = lived.history })
kept_at_end s ends ticks turns trace lived way are = let end = whole_at_end s ends ticks turns trace lived way are in (end.0, end.1.kept)

-- the taken bytes
pub taken_at_end : (s : AllSettings) (ends : Ends) (ticks : Option ℕ) (turns : ℕ) (trace : List TraceEntry) (lived : RunResult) (output : ℕ) → Execution (life s ends ticks turns) trace (Return lived) → AreNewLinks 0 (loop_part trace)
    → taken lived.history output ≡ min (taken_over (links_of output (loop_part trace)) (loop_part trace)) (2 ^ 64 - 1)
taken_at_end s ends ticks turns trace lived output way are =
    let end = whole_at_end s ends ticks turns trace lived way are in
    stands_still lived.history output ∙ ap (λ (k : ℕ). min k (2 ^ 64 - 1)) (end.1.counted.count output)

module _ (s : AllSettings) (greatest : ℕ) (es : List LoopEntry) (h : History) (kept : Kept s (record { greatest = greatest; calls = es; history = h })) where
  -- its flush is on the link, or its outcome is logged
  followed_at : (link : ℕ) (r : Route) (events : List LogEvent) (p : Progress) → FlushState s es h link r events p → (stage : Stage) → p.stage ≡ stage → IsTracked h link r (answer_in p.stage)
  followed_at link r events p flown Opening is = absurd (subst (λ (x : Stage). IsAt (delivers s h r events) (since_dial link es) p x) is flown.stands.at)
  followed_at link r events p flown (Writing other) is = let at = subst (λ (x : Stage). IsAtLink h link r events p (link_in x)) is flown.at in rw is at.2
  followed_at link r events p flown (AwaitingAck other) is = let at = subst (λ (x : Stage). IsAtLink h link r events p (link_in x)) is flown.at in rw is at.2
  followed_at link r events p flown (Ended answer) is = let logged = subst (λ (x : Stage). OutcomeIsLoggedIn h r (answer_in x)) is flown.logged in rw is logged

  closed_in : (link : ℕ) (r : Route) (events : List LogEvent) (p : Progress) → FlushState s es h link r events p → (stage : Stage) → p.stage ≡ stage → closes_in (link_in stage) ≡ closed_for (answer_in stage)
  closed_in link r events p flown Opening is = absurd (subst (λ (x : Stage). IsAt (delivers s h r events) (since_dial link es) p x) is flown.stands.at)
  closed_in link r events p flown (Writing other) is = refl
  closed_in link r events p flown (AwaitingAck other) is = refl
  closed_in link r events p flown (Ended answer) is = refl

  closed_so : Closed (record { greatest = greatest; calls = es; history = h }) → (to : DialTarget) (link : ℕ) → WasDialled to link es → (r : Route) (events : List LogEvent) (p : Progress) → FlushState s es h link r events p → close_count link es ≡ closed_for (answer_in p.stage)
  closed_so closed to link given r events p flown = closed.per to link given ∙ (closed_at h link r events p (link_in p.stage) flown.at ∙ closed_in link r events p flown p.stage refl)

  pub hands_beginning : Closed (record { greatest = greatest; calls = es; history = h }) → (to : DialTarget) (link : ℕ) → WasDialled to link es → SendsPrefix s h es to link
  hands_beginning closed to link given =
      let e = kept.each to link given in
      record {
        route = e.0;
        events = e.1;
        is_for = e.3;
        opened = e.4.opened;
        shut = e.4.shut;
        begun = e.4.begun_with;
        rest = e.4.stands.rest;
        beginning = e.4.stands.beginning;
        followed = subst (λ (answer : Option Answer). IsTracked h link e.0 answer) (sym e.4.stands.answered) (followed_at link e.0 e.1 e.2 e.4 e.2.stage refl);
        closed = subst (λ (answer : Option Answer). close_count link es ≡ closed_for answer) (sym e.4.stands.answered) (closed_so closed to link given e.0 e.1 e.2 e.4);
      }

  verdict_at : (r : Route) (answer : Answer) (by : EndedBy s es h r answer) → HasOutcome s h es r by.events (Some answer) by.link
  verdict_at r answer by = record { begun = by.flown.begun_with; given = by.flown.given; answered = by.flown.stands.answered ∙ ap answer_in by.ended }

  no_rest : (a b c : List ℕ) → a ++ b ≡ c → length a ≡ length c → a ≡ c
  no_rest a [] c is same = sym (append-nil a) ∙ is
  no_rest a (x ∷ b) c is same = absurd (omega (arith, length-append a (x ∷ b), ap length is))

  pub hands_whole : (r : Route) → EndedBy s es h r Good → SendsAll s h es r
  hands_whole r by =
      let stands = by.flown.stands in
      let all : by.progress.taken ≡ length (payload s h r by.events) = subst (λ (stage : Stage). IsAt (delivers s h r by.events) (since_dial by.link es) by.progress stage) by.ended stands.at in
      record { link = by.link; events = by.events; good = verdict_at r Good by; whole = no_rest (bytes_pushed (since_dial by.link es)) stands.rest (payload s h r by.events) stands.beginning (sym stands.counted ∙ all) }

  pub is_rejected : (r : Route) → EndedBy s es h r Bad → IsRejected s h es r
  is_rejected r by =
      let stands = by.flown.stands in
      let at = subst (λ (stage : Stage). IsAt (delivers s h r by.events) (since_dial by.link es) by.progress stage) by.ended stands.at in
      record { link = by.link; events = by.events; bad = verdict_at r Bad by; wanted = at.1; whole = no_rest (bytes_pushed (since_dial by.link es)) stands.rest (payload s h r by.events) stands.beginning (sym stands.counted ∙ at.0) }

  answers_none : (stage : Stage) (link : LinkId) → link_in stage ≡ Some link → answer_in stage ≡ None
  answers_none Opening link is = refl
  answers_none (Writing other) link is = refl
  answers_none (AwaitingAck other) link is = refl
  answers_none (Ended answer) link is = absurd (cc is)

  pub is_under_way : (r : Route) (p : Progress) → flight h r ≡ Some p → IsInProgress s h es r p
  is_under_way r p is =
      let e = kept.under_way r p is in
      let last : begun h r ≡ e.1 = (subst (λ (o : Option LinkId). IsAtLink h e.0 r e.1 p o) e.2 e.3.at).3 in
      record {
        link = e.0;
        has = e.2;
        undecided = subst (λ (events : List LogEvent). HasOutcome s h es r events None e.0) (sym last)
            (record { begun = e.3.begun_with; given = e.3.given; answered = e.3.stands.answered ∙ answers_none p.stage (record { 0 = e.0 }) e.2 });
        taken = e.3.stands.counted;
      }

  pub has_failed : (r : Route) → WasTurnedAway es h r ⊎ EndedBy s es h r Retry → HasRetryCause s h es r
  has_failed r (inl was) = inl was.1
  has_failed r (inr by) = inr (by.link, by.events, verdict_at r Retry by)
