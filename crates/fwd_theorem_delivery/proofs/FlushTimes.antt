-- Flushes begin when they are due, and end in time.
use Rattle.std.proofs.Common.{◌≡◌, inl, inr, ℕ, ◌-◌, ◌≤◌, ◌&&◌, Bool, true, false, cond, List, [], ◌∷◌, Option, Some, None, refl, sym, ◌∙◌, ap, subst, arith}
use Rattle.std.specs.Prelude.{Contains, ◌==◌}
use Rattle.std.proofs.lemmas.Bool.{eqb-true, and_parts}
use Rattle.fwd_event.specs.declared.event.Event.{Event}
use Rattle.fwd_event.specs.EventPrefix.{events_in}
use Rattle.fwd_outside.specs.Program.{entry, Return, Ask, bind}
use Rattle.fwd_outside.specs.Loop.{LoopProgram, Word}
use Rattle.fwd_table.specs.Outcomes.{may_retry}
use Rattle.fwd_table.specs.declared.outcome.Answer.{Answer as Answered}
use Rattle.fwd_table.specs.declared.outcome.Answer.TheVariants.{Good, Retry, Bad}
use Rattle.fwd_chunk.specs.declared.kept.Kept.{Kept}
use Rattle.fwd_chunk.specs.declared.kept.Kept.TheVariants.{InFile, Adopted, InMemory}
use Rattle.fwd_chunk.specs.Kept.{size_of}
use Rattle.fwd_chunk.specs.Content.{read_content_program}
use Rattle.fwd_flush.specs.declared.stage.Stage.{Stage}
use Rattle.fwd_flush.specs.declared.stage.Stage.TheVariants.{Opening, Writing, AwaitingAck, Ended}
use Rattle.fwd_flush.specs.FlushProgram.{Progress, Delivery, not_started, starts, polls, backs, breaks}
use Rattle.fwd_settings.specs.declared.settings_types.AllSettings.{AllSettings}
use Rattle.fwd_model.specs.Fact.{History, Route, Outcome, FlushStarted, InFlight, Retries, Delivered, Failed, Exhausted, Evicted, Sent, OnRoute, MarkStarted, Marked, Removed, FileLeft, IoFailed}
use Rattle.fwd_model.specs.Trace.{OnLoop, Note}
use Rattle.fwd_model.specs.DeviceActions.{on_loop, on_disk}
use Rattle.fwd_model.specs.Settings.{output_at, retries_at}
use Rattle.fwd_model.specs.Clock.{clock}
use Rattle.fwd_model.specs.Chunks.{records as records_of}
use Rattle.fwd_model.specs.ChunkStorage.{kept_of}
use Rattle.fwd_model.specs.Routes.{same_route, tries, due, progress_of, is_idle, flight, route_on_link}
use Rattle.fwd_model.specs.Payloads.{delivery, tag_of_chunk}
use Rattle.fwd_model.specs.Dispatch.{due_routes, may_start, has_place, fits}
use Rattle.fwd_model.specs.Notes.{note_then, note}
use Rattle.fwd_model.specs.ResolveActions.{marks_or_removes}
use Rattle.fwd_model.specs.FlushActions.{retries, applies_answer, notes_stage, stands, notes_calls, starts_with, is_complete_read, after_read, begins_as, starts_flush, starts_if_allowed, starts_each, walk, goes_on, resumes, at_room, at_reply, at_break}
use Rattle.fwd_theorem_trace.specs.Past.{Past, logged}
use Rattle.fwd_theorem_trace.proofs.Members.{here, deeper}
use Rattle.fwd_theorem_trace.proofs.RouteResolution.{same_itself}
use Rattle.fwd_theorem_delivery.specs.DueOrder.{IsDueBefore}
use Rattle.fwd_theorem_delivery.specs.FlushedEvents.{WereRead, AreOfChunk, SendsChunk}
use Rattle.fwd_theorem_delivery.specs.RetryCounts.{is_begun}
use Rattle.fwd_theorem_delivery.proofs.DueRoutes.{InOrder, due_in_order, due_by_now}
use Rattle.fwd_theorem_delivery.proofs.TimedFacts.{is_on_the_way, on_the_way, just_begun, NoneBegun, owing, owing_outcome, Calm, IsKeptByTails, calm_tails, calm_outcome, InTime, ReturnsTimed, MayNote, deed, only, nothing, tells_then, tells_behind, tells_if, disk_rests, loop_rests, tells_settles}

module _ (s : AllSettings) where
  -- a flush of q goes on, ends, and establishes L
  module _ (q : Route) (K L : History → Type 0) (tails : IsKeptByTails K) (settling : IsKeptByTails L) (ends : (outcome : Outcome) (h : History) → is_begun outcome ≡ false → K h → L (OnRoute q outcome ∷ h))
      (way : (h : History) → K h → on_the_way h q ≡ true) where
    ends_as : (outcome : Outcome) (past : Past) → is_begun outcome ≡ false → MayNote s (OnRoute q outcome) past → InTime s past → K (logged past) → ReturnsTimed s L past (note_then (OnRoute q outcome) (logged past) (marks_or_removes s q))
    ends_as outcome past not_begun may in_time so =
        deed s L (OnRoute q outcome) past (marks_or_removes s q) may in_time (λ answer later. tells_settles s L settling q (entry (Note (OnRoute q outcome)) answer ∷ past) later (ends outcome (logged past) not_begun so))

    tells_retries : (past : Past) → InTime s past → K (logged past) → ReturnsTimed s L past (retries s q (logged past))
    unfolding retries
    tells_retries past in_time so =
        tells_if s L (may_retry (retries_at (output_at s q.output)) (tries (logged past) q)) past (Ask (OnLoop Word) (λ word. note (OnRoute q (Retries word)) (logged past))) (note_then (OnRoute q Exhausted) (logged past) (marks_or_removes s q))
        (λ yes. (in_time, λ word. only s L (OnRoute q (Retries word)) (entry (OnLoop Word) word ∷ past) (λ _ _. (yes, way (logged past) so)) (λ due. in_time due.1) (ends (Retries word) (logged past) refl so)))
        (λ no. ends_as Exhausted past refl (λ _ _. (no, way (logged past) so)) in_time so)

    tells_answers_by : (answer : Answered) (past : Past) → InTime s past → K (logged past) → ReturnsTimed s L past (applies_answer s q answer (logged past))
    tells_answers_by Good past in_time so = ends_as Delivered past refl (λ _ _. tt) in_time so
    tells_answers_by Retry past in_time so = tells_retries past in_time so
    tells_answers_by Bad past in_time so = ends_as Failed past refl (λ _ _. tt) in_time so

    flies_on : (progress : Progress) (past : Past) → InTime s past → K (logged past) → ReturnsTimed s L past (note (OnRoute q (InFlight progress)) (logged past))
    flies_on progress past in_time so = only s L (OnRoute q (InFlight progress)) past (λ _ _. way (logged past) so) in_time (ends (InFlight progress) (logged past) refl so)

    tells_stands_in : (progress : Progress) (stage : Stage) (past : Past) → InTime s past → K (logged past) → ReturnsTimed s L past (notes_stage s q progress stage (logged past))
    tells_stands_in progress Opening past in_time so = flies_on progress past in_time so
    tells_stands_in progress (Writing link) past in_time so = flies_on progress past in_time so
    tells_stands_in progress (AwaitingAck link) past in_time so = flies_on progress past in_time so
    tells_stands_in progress (Ended answer) past in_time so = tells_answers_by answer past in_time so

    tells_stands : (progress : Progress) (past : Past) → InTime s past → K (logged past) → ReturnsTimed s L past (stands s q progress (logged past))
    unfolding stands
    tells_stands progress past in_time so = tells_stands_in progress progress.stage past in_time so

    tells_lands : (before : ℕ) (progress : Progress) (past : Past) → InTime s past → K (logged past) → ReturnsTimed s L past (notes_calls s q before progress (logged past))
    unfolding notes_calls
    tells_lands before progress past in_time so =
        deed s L (Sent q.output (progress.taken - before)) past (stands s q progress) (λ _ _. tt) in_time
        (λ answer later. tells_stands progress (entry (Note (Sent q.output (progress.taken - before))) answer ∷ past) later (tails (Sent q.output (progress.taken - before)) (logged past) tt so))

  -- ---- a turn of q, which keeps the times of all others

  abbrev SameDue : Route → History → History → Type 0
  SameDue q old h = (clock h ≡ clock old) × ((r : Route) → same_route q r ≡ false → due s h r ≡ due s old r)

  -- its flush is in progress, and no flush of another route began just now
  abbrev Mid : Route → History → History → Type 0
  Mid q old h = (((r : Route) → same_route q r ≡ false → just_begun h r ≡ false) × (owing s h ≡ [])) × (SameDue q old h × (on_the_way h q ≡ true))

  abbrev Turned : Route → History → History → Type 0
  Turned q old h = (Calm s) h × SameDue q old h

  mid_tails : (q : Route) (old : History) → IsKeptByTails (Mid q old)
  mid_tails q old (Sent output bytes) h is so = so
  mid_tails q old (MarkStarted r) h is so = so
  mid_tails q old (Marked r) h is so = so
  mid_tails q old (Removed chunk) h is so = so
  mid_tails q old (FileLeft chunk) h is so = so
  mid_tails q old IoFailed h is so = so
  mid_tails q old fact h is so = absurd is

  turned_tails : (q : Route) (old : History) → IsKeptByTails (Turned q old)
  turned_tails q old (Sent output bytes) h is so = so
  turned_tails q old (MarkStarted r) h is so = so
  turned_tails q old (Marked r) h is so = so
  turned_tails q old (Removed chunk) h is so = so
  turned_tails q old (FileLeft chunk) h is so = so
  turned_tails q old IoFailed h is so = so
  turned_tails q old fact h is so = absurd is

  same_due : (q : Route) (outcome : Outcome) (old h : History) → SameDue q old h → SameDue q old (OnRoute q outcome ∷ h)
  same_due q outcome old h same = (same.0, λ r other. rw other (same.1 r other))

  mid_ends : (q : Route) (old : History) (outcome : Outcome) (h : History) → is_begun outcome ≡ false → Mid q old h → Turned q old (OnRoute q outcome ∷ h)
  mid_ends q old outcome h not_begun so = ((calm, owing_outcome s q outcome h so.0.1), same_due q outcome old h so.1.0)
    where
      calm : (r : Route) → just_begun (OnRoute q outcome ∷ h) r ≡ false
      calm r = by (same_route q r) refl
        where
          by : (b : Bool) → same_route q r ≡ b → cond b (is_begun outcome) (just_begun h r) ≡ false
          by true is = not_begun
          by false is = so.0.0 r is

  begins_mid : (q : Route) (events : List Event) (h : History) → (Calm s) h → Mid q h (OnRoute q (FlushStarted events) ∷ h)
  begins_mid q events h calm = ((λ r other. rw other (calm.0 r), calm.1), (same_due q (FlushStarted events) h h (refl, λ r other. refl), rw (same_itself q) refl))

  module _ (q : Route) (old : History) where
    abbrev Starting : Past → Type 0
    Starting past = (logged past ≡ old) × ((due s old q ≤ clock old) × (is_idle s old q ≡ true))

    turned_idle : (Calm s) old → Turned q old old
    turned_idle calm = (calm, (refl, λ r other. refl))

    tells_begins_with : (events : List Event) (past : Past) → Starting past → SendsChunk s old q events → (Calm s) old → InTime s past → ReturnsTimed s (Turned q old) past (starts_with s q events (logged past))
    unfolding starts_with
    tells_begins_with events past starting sends calm in_time =
        deed s (Turned q old) (OnRoute q (FlushStarted events)) past (λ at. bind (on_loop (starts (delivery s at q) q.output (tag_of_chunk at q.chunk) not_started)) (λ progress. notes_calls s q 0 progress at))
        (λ _ _. subst (λ (h : History). (due s h q ≤ clock h) × ((is_idle s h q ≡ true) × (NoneBegun h × SendsChunk s h q events))) (sym starting.0) (starting.1.0, (starting.1.1, (calm.0, sends)))) in_time
        (λ answer later.
        let at : Past = entry (Note (OnRoute q (FlushStarted events))) answer ∷ past in
        let mid : Mid q old (logged at) = subst (λ (h : History). Mid q old (OnRoute q (FlushStarted events) ∷ h)) (sym starting.0) (begins_mid q events old calm) in
        tells_behind s (Turned q old) at (on_loop (starts (delivery s (logged at) q) q.output (tag_of_chunk (logged at) q.chunk) not_started)) (λ progress h. notes_calls s q 0 progress h)
        (loop_rests s (starts (delivery s (logged at) q) q.output (tag_of_chunk (logged at) q.chunk) not_started) at later)
        (λ progress now still same. tells_lands q (Mid q old) (Turned q old) (mid_tails q old) (turned_tails q old) (mid_ends q old) (λ h so. so.1.1) 0 progress now still (subst (Mid q old) (sym same) mid)))

    idle_here : (past : Past) → Starting past → (Calm s) old → InTime s past → ReturnsTimed s (Turned q old) past (Return (logged past))
    idle_here past starting calm in_time = nothing s (Turned q old) past in_time (subst (Turned q old) (sym starting.0) (turned_idle calm))

    -- the events of a read begin a flush, if the read is whole
    module _ (size : ℕ) (sends : (events : List Event) → WereRead size events → SendsChunk s old q events) where
      tells_read_behind : (past : Past) (bytes : Option (List ℕ)) → Starting past → (Calm s) old → InTime s past → ReturnsTimed s (Turned q old) past (after_read s q size (logged past) bytes)
      tells_read_behind past None starting calm in_time =
          only s (Turned q old) IoFailed past (λ _ _. tt) in_time (subst (λ (h : History). Turned q old (IoFailed ∷ h)) (sym starting.0) (turned_idle calm))
      tells_read_behind past (Some bytes) starting calm in_time =
          tells_if s (Turned q old) (is_complete_read size bytes) past (starts_with s q (events_in bytes).0 (logged past)) (Return (logged past))
          (λ yes. tells_begins_with (events_in bytes).0 past starting (sends (events_in bytes).0 (record { bytes = bytes; whole = yes; are = refl })) calm in_time) (λ no. idle_here past starting calm in_time)

      tells_begins_read : (kept : Kept) (past : Past) → Starting past → (Calm s) old → InTime s past → ReturnsTimed s (Turned q old) past (bind (on_disk (read_content_program kept)) (after_read s q size (logged past)))
      tells_begins_read kept past starting calm in_time =
          tells_behind s (Turned q old) past (on_disk (read_content_program kept)) (λ bytes h. after_read s q size h bytes) (disk_rests s (read_content_program kept) past in_time)
          (λ bytes now later same. tells_read_behind now bytes (same ∙ starting.0, starting.1) calm later)

    tells_begins_as : (kept : Option Kept) (past : Past) → kept_of s old q.chunk ≡ kept → Starting past → (Calm s) old → InTime s past → ReturnsTimed s (Turned q old) past (begins_as s q kept (logged past))
    tells_begins_as None past is starting calm in_time = idle_here past starting calm in_time
    tells_begins_as (Some (InMemory content)) past is starting calm in_time =
        tells_begins_with (records_of (logged past) q.chunk) past starting (subst (λ (k : Option Kept). AreOfChunk k old q (records_of (logged past) q.chunk)) (sym is) (ap (λ (h : History). records_of h q.chunk) starting.0)) calm in_time
    tells_begins_as (Some (InFile head)) past is starting calm in_time =
        tells_begins_read (size_of (InFile head)) (λ events read. subst (λ (k : Option Kept). AreOfChunk k old q events) (sym is) read) (InFile head) past starting calm in_time
    tells_begins_as (Some (Adopted head)) past is starting calm in_time =
        tells_begins_read (size_of (Adopted head)) (λ events read. subst (λ (k : Option Kept). AreOfChunk k old q events) (sym is) read) (Adopted head) past starting calm in_time

  tells_turn : (q : Route) (past : Past) → due s (logged past) q ≤ clock (logged past) → (Calm s) (logged past) → InTime s past → ReturnsTimed s (Turned q (logged past)) past (starts_if_allowed s q (logged past))
  unfolding starts_if_allowed starts_flush
  tells_turn q past by_now calm in_time =
      tells_if s (Turned q (logged past)) (may_start s (logged past) q) past (starts_flush s q (logged past)) (Return (logged past))
      (λ may.
      tells_begins_as q (logged past) (kept_of s (logged past) q.chunk) past refl
      (refl, (by_now, (and_parts (is_idle s (logged past) q) (has_place s (logged past) q && fits s (logged past) q) may).0)) calm in_time)
      (λ no. nothing s (Turned q (logged past)) past in_time (turned_idle q (logged past) calm))

  -- ---- the turns of different due routes

  abbrev AreDue : History → List Route → Type 0
  AreDue h [] = Unit {0}
  AreDue h (q ∷ rs) = (due s h q ≤ clock h) × (((r : Route) → Contains rs r → same_route q r ≡ false) × AreDue h rs)

  still_due : (q : Route) (old h : History) (rs : List Route) → SameDue q old h → ((r : Route) → Contains rs r → same_route q r ≡ false) → AreDue old rs → AreDue h rs
  still_due q old h [] same apart are = tt
  still_due q old h (r ∷ rs) same apart are =
      let at = same.1 r (apart r (here r rs)) in
      let now = same.0 in
      let le = are.0 in
      (omega (arith, at, now, le), (are.1.0, still_due q old h rs same (λ x has. apart x (deeper r rs x has)) are.1.1))

  tells_turns : (rs : List Route) (past : Past) → AreDue (logged past) rs → (Calm s) (logged past) → InTime s past → ReturnsTimed s (Calm s) past (starts_each s rs (logged past))
  tells_turns [] past are calm in_time = nothing s (Calm s) past in_time calm
  tells_turns (q ∷ rs) past are calm in_time =
      tells_then s (Turned q (logged past)) (Calm s) past (starts_if_allowed s q (logged past)) (starts_each s rs) (tells_turn q past are.0 calm in_time)
      (λ now grown later so. tells_turns rs now (still_due q (logged past) (logged now) rs so.1 are.1.0 are.1.1) so.0 later)

  not_sooner : (h : History) (q r : Route) → q.chunk ≡ r.chunk → q.output ≡ r.output → due s h q ≡ due s h r → IsDueBefore s h q r → ⊥
  not_sooner h q r chunks outputs dues (inl less) = absurd (omega (arith, less, dues))
  not_sooner h q r chunks outputs dues (inr (same, inl less)) = absurd (omega (arith, less, chunks))
  not_sooner h q r chunks outputs dues (inr (same, inr (same_chunk, less))) = absurd (omega (arith, less, outputs))

  apart_by : (h : History) (q r : Route) → IsDueBefore s h q r → same_route q r ≡ false
  apart_by h q r sooner = by (same_route q r) refl
    where
      by : (b : Bool) → same_route q r ≡ b → b ≡ false
      by true is =
          let parts = and_parts (q.chunk == r.chunk) (q.output == r.output) is in
          let chunks = eqb-true q.chunk r.chunk parts.0 in
          let outputs = eqb-true q.output r.output parts.1 in
          let same : q ≡ r = rw (chunks, outputs) refl in
          absurd (not_sooner h q r chunks outputs (ap (due s h) same) sooner)
      by false is = refl

  all_due : (h : History) (rs : List Route) → InOrder s h rs → ((r : Route) → Contains rs r → due s h r ≤ clock h) → AreDue h rs
  all_due h [] order by_now = tt
  all_due h (q ∷ rs) order by_now = (by_now q (here q rs), (λ r has. apart_by h q r (order.0 r has), all_due h rs order.1 (λ r has. by_now r (deeper q rs r has))))

  pub calm_walk : (past : Past) → InTime s past → (Calm s) (logged past) → ReturnsTimed s (Calm s) past (walk s (logged past))
  unfolding walk
  calm_walk past in_time calm = tells_turns (due_routes s (logged past)) past (all_due (logged past) (due_routes s (logged past)) (due_in_order s (logged past)) (due_by_now s (logged past))) calm in_time

  -- ---- events on links

  abbrev CalmOn : Route → History → Type 0
  CalmOn r h = (Calm s) h × (on_the_way h r ≡ true)

  calm_on_tails : (r : Route) → IsKeptByTails (CalmOn r)
  calm_on_tails r (Sent output bytes) h is so = so
  calm_on_tails r (MarkStarted q) h is so = so
  calm_on_tails r (Marked q) h is so = so
  calm_on_tails r (Removed chunk) h is so = so
  calm_on_tails r (FileLeft chunk) h is so = so
  calm_on_tails r IoFailed h is so = so
  calm_on_tails r fact h is so = absurd is

  -- a flush with progress is in progress
  flight_on : (h : History) (r : Route) (progress : Progress) → flight h r ≡ Some progress → on_the_way h r ≡ true
  flight_on [] r progress is = absurd (cc is)
  flight_on (OnRoute other outcome ∷ h) r progress is = by (same_route other r) outcome is (flight_on h r progress)
    where
      on : (outcome : Outcome) → progress_of outcome ≡ Some progress → is_on_the_way outcome ≡ true
      on (FlushStarted events) is = refl
      on (InFlight p) is = refl
      on (Retries word) is = absurd (cc is)
      on Delivered is = absurd (cc is)
      on Failed is = absurd (cc is)
      on Exhausted is = absurd (cc is)
      on Evicted is = absurd (cc is)

      by : (b : Bool) (outcome : Outcome) → cond b (progress_of outcome) (flight h r) ≡ Some progress → (flight h r ≡ Some progress → on_the_way h r ≡ true) → cond b (is_on_the_way outcome) (on_the_way h r) ≡ true
      by true outcome is more = on outcome is
      by false outcome is more = more is
  flight_on (fact ∷ h) r progress is = flight_on h r progress is

  calm_goes_on : (go : Delivery → Progress → LoopProgram Progress) (r : Route) (past : Past) (at : Option Progress) → flight (logged past) r ≡ at → InTime s past → (Calm s) (logged past)
      → ReturnsTimed s (Calm s) past (goes_on s (λ d p. on_loop (go d p)) r at (logged past))
  calm_goes_on go r past None is in_time calm = nothing s (Calm s) past in_time calm
  calm_goes_on go r past (Some progress) is in_time calm =
      tells_behind s (Calm s) past (on_loop (go (delivery s (logged past) r) progress)) (λ p h. notes_calls s r progress.taken p h) (loop_rests s (go (delivery s (logged past) r) progress) past in_time)
      (λ p now later same. tells_lands r (CalmOn r) (Calm s) (calm_on_tails r) (calm_tails s) (λ outcome h not_begun so. calm_outcome s r outcome h not_begun so.0) (λ h so. so.1) progress.taken p now later
      (subst (CalmOn r) (sym same) (calm, flight_on (logged past) r progress is)))

  calm_resumes : (go : Delivery → Progress → LoopProgram Progress) (r : Option Route) (past : Past) → InTime s past → (Calm s) (logged past) → ReturnsTimed s (Calm s) past (resumes s (λ d p. on_loop (go d p)) r (logged past))
  calm_resumes go None past in_time calm = nothing s (Calm s) past in_time calm
  calm_resumes go (Some r) past in_time calm = calm_goes_on go r past (flight (logged past) r) refl in_time calm

  pub calm_has_room : (link : ℕ) (past : Past) → InTime s past → (Calm s) (logged past) → ReturnsTimed s (Calm s) past (at_room s link (logged past))
  unfolding at_room
  calm_has_room link past in_time calm = calm_resumes (λ d p. polls d p) (route_on_link (logged past) link) past in_time calm

  pub calm_comes_back : (link : ℕ) (bytes : List ℕ) (past : Past) → InTime s past → (Calm s) (logged past) → ReturnsTimed s (Calm s) past (at_reply s link bytes (logged past))
  unfolding at_reply
  calm_comes_back link bytes past in_time calm = calm_resumes (λ d p. backs d bytes p) (route_on_link (logged past) link) past in_time calm

  pub calm_has_broken : (link : ℕ) (past : Past) → InTime s past → (Calm s) (logged past) → ReturnsTimed s (Calm s) past (at_break s link (logged past))
  unfolding at_break
  calm_has_broken link past in_time calm = calm_resumes (λ d p. breaks p) (route_on_link (logged past) link) past in_time calm
