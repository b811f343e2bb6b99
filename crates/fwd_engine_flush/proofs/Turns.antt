-- The turn of a route in a walk changes no other route. The route itself isn't due any more, or stays as it is.
use Rattle.std.proofs.Common.{◌≡◌, ◌⊎◌, inl, inr, ℕ, ◌<◌, ◌≤◌, Bool, true, false, cond, List, [], ◌∷◌, Option, Some, None, refl, sym, subst, arith}
use Rattle.std.specs.Prelude.{◌&&◌, ◌+◌, ◌-◌, ◌^◌, min, is_some}
use Rattle.std.proofs.lemmas.Bool.{eq-eqb}
use Rattle.fwd_base.specs.Limits.{latest_time}
use Rattle.fwd_event.specs.declared.event.Event.{Event}
use Rattle.fwd_event.specs.EventPrefix.{events_in}
use Rattle.fwd_outside.specs.Program.{Return, Ask, bind, Execution}
use Rattle.fwd_outside.specs.Loop.{Word}
use Rattle.fwd_retry.specs.Wait.{wait}
use Rattle.fwd_table.specs.Outcomes.{may_retry}
use Rattle.fwd_table.specs.declared.outcome.Answer.{Answer as Answered}
use Rattle.fwd_table.specs.declared.outcome.Answer.TheVariants.{Good, Retry, Bad}
use Rattle.fwd_chunk.specs.declared.kept.Kept.{Kept}
use Rattle.fwd_chunk.specs.declared.kept.Kept.TheVariants.{InFile, Adopted, InMemory}
use Rattle.fwd_chunk.specs.Kept.{size_of}
use Rattle.fwd_chunk.specs.Content.{read_content_program}
use Rattle.fwd_flush.specs.declared.stage.Stage.{Stage}
use Rattle.fwd_flush.specs.declared.stage.Stage.TheVariants.{Opening, Writing, AwaitingAck, Ended}
use Rattle.fwd_flush.specs.FlushProgram.{Progress}
use Rattle.fwd_settings.specs.declared.settings_types.AllSettings.{AllSettings}
use Rattle.fwd_model.specs.Fact.{History, Route, Outcome, OnRoute, FlushStarted, InFlight, Delivered, Failed, Retries, Exhausted}
use Rattle.fwd_model.specs.Trace.{Answer, Action, TraceEntry, OnLoop}
use Rattle.fwd_model.specs.DeviceActions.{on_disk}
use Rattle.fwd_model.specs.Settings.{output_at, output_name, retries_at}
use Rattle.fwd_model.specs.Clock.{clock}
use Rattle.fwd_model.specs.Chunks.{chunks_of, is_closed, records as records_of}
use Rattle.fwd_model.specs.ChunkStorage.{kept_of, mark_position}
use Rattle.fwd_model.specs.Routes.{same_route, is_resolved, resolves, flight, due, owes, tries, wait_for}
use Rattle.fwd_model.specs.Dispatch.{may_start}
use Rattle.fwd_model.specs.Notes.{note_then, note}
use Rattle.fwd_model.specs.ResolveActions.{dropped, drops, after_mark, marks_at, records, marks_or_removes}
use Rattle.fwd_model.specs.FlushActions.{retries, applies_answer, notes_stage, stands, notes_calls, starts_with, is_complete_read, after_read, begins_as, starts_flush, starts_if_allowed}
use Rattle.fwd_model.proofs.ClockBound.{clock_within}

-- ---- what holds of the result of an action, for all answers

abbrev pub Ends : {R : Type 0} → (R → Type 0) → Action R → Type 0
Ends Q (Return x) = Q x
Ends Q (Ask call go) = (answer : Answer call) → Ends Q (go answer)

pub ended : {R : Type 0} (Q : R → Type 0) (p : Action R) (es : List TraceEntry) (x : R) → Ends Q p → Execution p es (Return x) → Q x
ended {R = R} Q p [] x ends way = subst (λ (q : Action R). Ends Q q) (sym way) ends
ended Q (Return y) (e ∷ es) x ends way = absurd way
ended Q (Ask call go) (e ∷ es) x ends way = ended Q (go way.0) es x (ends way.0) way.2

ends_after : {R S : Type 0} (Q : S → Type 0) (p : Action R) (next : R → Action S) → ((x : R) → Ends Q (next x)) → Ends Q (bind p next)
ends_after Q (Return x) next more = more x
ends_after Q (Ask call go) next more = λ answer. ends_after Q (go answer) next more

ends_if : {R : Type 0} (Q : R → Type 0) (b : Bool) (p q : Action R) → Ends Q p → Ends Q q → Ends Q (cond b p q)
ends_if Q true p q first second = first
ends_if Q false p q first second = second

ends_weaker : {R : Type 0} (P Q : R → Type 0) → ((x : R) → P x → Q x) → (p : Action R) → Ends P p → Ends Q p
ends_weaker P Q so (Return x) ends = so x ends
ends_weaker P Q so (Ask call go) ends = λ answer. ends_weaker P Q so (go answer) (ends answer)

-- ---- what a turn leaves as it is

-- the chunks and the clock are as they were
abbrev pub IsSameTime : History → History → Type 0
IsSameTime first h =
    (chunks_of h ≡ chunks_of first) × (clock h ≡ clock first)
    × ((chunk : ℕ) → is_closed h chunk ≡ is_closed first chunk)

module _ (s : AllSettings) where
  -- a route is as it was
  abbrev pub IsSameRoute : History → History → Route → Type 0
  IsSameRoute first h x =
      (is_resolved s h x ≡ is_resolved s first x) × (flight h x ≡ flight first x) × (due s h x ≡ due s first x)

  -- a route is in flight, resolved or due later
  abbrev pub IsNotDue : History → Route → Type 0
  IsNotDue h x = (is_some (flight h x) ≡ true) ⊎ ((is_resolved s h x ≡ true) ⊎ (clock h < due s h x))

  module _ (base : 1 ≤ s.service.base) (r : Route) (first : History) where
    abbrev OthersStay : History → Type 0
    OthersStay h = IsSameTime first h × ((x : Route) → same_route r x ≡ false → IsSameRoute first h x)

    abbrev IsOver : History → Type 0
    IsOver h = OthersStay h × IsNotDue h r

    abbrev pub Turned : History → Type 0
    Turned h = OthersStay h × (IsSameRoute first h r ⊎ IsNotDue h r)

    itself : same_route r r ≡ true
    itself = rw (eq-eqb r.chunk r.chunk refl, eq-eqb r.output r.output refl) refl

    step : (outcome : Outcome) (h : History) → OthersStay h → OthersStay (OnRoute r outcome ∷ h)
    step outcome h stay = (stay.0, λ x other. rw other (stay.1 x other))

    resolved : (outcome : Outcome) (h : History) → resolves outcome ≡ true → is_resolved s (OnRoute r outcome ∷ h) r ≡ true
    resolved outcome h is = rw (itself, is) refl

    flies : (progress : Progress) (h : History) → is_some (flight (OnRoute r (InFlight progress) ∷ h) r) ≡ true
    flies progress h = rw itself refl

    -- a wait is a second at least
    waits : (n word : ℕ) → 1 ≤ wait n s.service.base s.service.cap word
    unfolding wait
    waits n word = omega (arith, base)

    later : (word : ℕ) (h : History) → clock (OnRoute r (Retries word) ∷ h) < due s (OnRoute r (Retries word) ∷ h) r
    later word h =
        rw itself (let within = clock_within h in let some = waits (min (tries h r + 1) (2 ^ 64 - 1)) word in omega (arith, within, some))

    -- ---- its outcome

    over_dropped : (chunk : ℕ) (h : History) (answer : Option (Unit {0})) → IsOver h → Ends IsOver (dropped chunk h answer)
    over_dropped chunk h (Some done) over = λ _. over
    over_dropped chunk h None over = λ _. λ _. over

    over_drops : (chunk : ℕ) (h : History) → IsOver h → Ends IsOver (drops s chunk h)
    unfolding drops
    over_drops chunk h over = ends_after IsOver _ (dropped chunk h) (λ answer. over_dropped chunk h answer over)

    over_marked : (h : History) (answer : Option Bool) → IsOver h → Ends IsOver (after_mark r h answer)
    over_marked h (Some done) over = λ _. over
    over_marked h None over = λ _. over

    over_marks : (kept : Option Kept) (place : Option ℕ) (h : History) → IsOver h → Ends IsOver (marks_at s r kept place h)
    over_marks kept None h over = over
    over_marks kept (Some place) h over = λ _. ends_after IsOver _ (after_mark r _) (λ answer. over_marked _ answer over)

    over_settles : (h : History) → IsOver h → Ends IsOver (marks_or_removes s r h)
    unfolding marks_or_removes records
    over_settles h over =
        ends_if IsOver (owes s h r.chunk) (records s r h) (drops s r.chunk h) (over_marks (kept_of s h r.chunk) (mark_position (output_name s r.output) (kept_of s h r.chunk)) h over) (over_drops r.chunk h over)

    over_resolved : (outcome : Outcome) (h : History) → resolves outcome ≡ true → OthersStay h → Ends IsOver (note_then (OnRoute r outcome) h (marks_or_removes s r))
    over_resolved outcome h is stay = λ _. over_settles _ (step outcome h stay, inr (inl (resolved outcome h is)))

    over_retries : (h : History) → OthersStay h → Ends IsOver (retries s r h)
    unfolding retries
    over_retries h stay =
        ends_if IsOver (may_retry (retries_at (output_at s r.output)) (tries h r)) (Ask (OnLoop Word) (λ word. note (OnRoute r (Retries word)) h)) (note_then (OnRoute r Exhausted) h (marks_or_removes s r))
        (λ word. λ _. (step (Retries word) h stay, inr (inr (later word h)))) (over_resolved Exhausted h refl stay)

    over_answer : (answer : Answered) (h : History) → OthersStay h → Ends IsOver (applies_answer s r answer h)
    over_answer Good h stay = over_resolved Delivered h refl stay
    over_answer Retry h stay = over_retries h stay
    over_answer Bad h stay = over_resolved Failed h refl stay

    over_stage : (progress : Progress) (stage : Stage) (h : History) → OthersStay h → Ends IsOver (notes_stage s r progress stage h)
    over_stage progress Opening h stay = λ _. (step (InFlight progress) h stay, inl (flies progress h))
    over_stage progress (Writing link) h stay = λ _. (step (InFlight progress) h stay, inl (flies progress h))
    over_stage progress (AwaitingAck link) h stay = λ _. (step (InFlight progress) h stay, inl (flies progress h))
    over_stage progress (Ended answer) h stay = over_answer answer h stay

    over_calls : (before : ℕ) (progress : Progress) (h : History) → OthersStay h → Ends IsOver (notes_calls s r before progress h)
    unfolding notes_calls stands
    over_calls before progress h stay = λ _. over_stage progress progress.stage _ stay

    -- ---- its start

    over_starts_with : (events : List Event) (h : History) → OthersStay h → Ends IsOver (starts_with s r events h)
    unfolding starts_with
    over_starts_with events h stay =
        let at : History = OnRoute r (FlushStarted events) ∷ h in
        λ _. ends_after IsOver _ (λ progress. notes_calls s r 0 progress at) (λ progress. over_calls 0 progress at (step (FlushStarted events) h stay))

    -- the history as the turn begins
    unchanged : Turned first
    unchanged = (((refl, refl, λ chunk. refl), λ x other. (refl, refl, refl)), inl (refl, refl, refl))

    turned_starts_with : (events : List Event) → Ends Turned (starts_with s r events first)
    turned_starts_with events =
        ends_weaker IsOver Turned (λ h over. (over.0, inr over.1)) (starts_with s r events first) (over_starts_with events first unchanged.0)

    turned_read : (kept : ℕ) (bytes : Option (List ℕ)) → Ends Turned (after_read s r kept first bytes)
    turned_read kept None = λ _. unchanged
    turned_read kept (Some bytes) = ends_if Turned (is_complete_read kept bytes) (starts_with s r (events_in bytes).0 first) (Return first) (turned_starts_with (events_in bytes).0) unchanged

    turned_file : (kept : Kept) → Ends Turned (bind (on_disk (read_content_program kept)) (after_read s r (size_of kept) first))
    turned_file kept = ends_after Turned (on_disk (read_content_program kept)) (after_read s r (size_of kept) first) (λ bytes. turned_read (size_of kept) bytes)

    turned_begins : (kept : Option Kept) → Ends Turned (begins_as s r kept first)
    turned_begins None = unchanged
    turned_begins (Some (InMemory content)) = turned_starts_with (records_of first r.chunk)
    turned_begins (Some (InFile head)) = turned_file (InFile head)
    turned_begins (Some (Adopted head)) = turned_file (Adopted head)

    pub turned : Ends Turned (starts_if_allowed s r first)
    unfolding starts_if_allowed starts_flush
    turned = ends_if Turned (may_start s first r) (starts_flush s r first) (Return first) (turned_begins (kept_of s first r.chunk)) unchanged
