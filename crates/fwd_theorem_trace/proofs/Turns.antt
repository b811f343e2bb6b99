-- A dispatch, turn by turn.
use Rattle.std.proofs.Common.{◌≡◌, ◌⊎◌, inl, inr, ℕ, ◌-◌, Bool, true, false, cond, List, [], ◌∷◌, ◌++◌, Option, Some, None, refl, sym, ◌∙◌, ap, subst}
use Rattle.fwd_event.specs.declared.event.Event.{Event}
use Rattle.fwd_event.specs.EventPrefix.{events_in}
use Rattle.fwd_outside.specs.Program.{entry, Return, Ask, bind, Execution}
use Rattle.fwd_outside.specs.Loop.{LoopProgram, Push, Close, Word}
use Rattle.fwd_outside.specs.Disk.{DiskProgram}
use Rattle.fwd_table.specs.Outcomes.{may_retry}
use Rattle.fwd_table.specs.declared.outcome.Answer.{Answer as Answered}
use Rattle.fwd_table.specs.declared.outcome.Answer.TheVariants.{Good, Retry, Bad}
use Rattle.fwd_chunk.specs.declared.kept.Kept.{Kept}
use Rattle.fwd_chunk.specs.declared.kept.Kept.TheVariants.{InFile, Adopted, InMemory}
use Rattle.fwd_chunk.specs.Kept.{size_of}
use Rattle.fwd_chunk.specs.Content.{read_content_program}
use Rattle.fwd_store.specs.Store.{drops as removes, settle_for_program}
use Rattle.fwd_flush.specs.declared.stage.Stage.{Stage}
use Rattle.fwd_flush.specs.declared.stage.Stage.TheVariants.{Opening, Writing, AwaitingAck, Ended}
use Rattle.fwd_flush.specs.FlushProgram.{Progress, Delivery, dialed_on, not_started, starts}
use Rattle.fwd_settings.specs.declared.settings_types.AllSettings.{AllSettings}
use Rattle.fwd_model.specs.Fact.{History, Route, FlushStarted, Retries, Delivered, Failed, Exhausted, Sent, OnRoute, MarkStarted, IoFailed}
use Rattle.fwd_model.specs.Trace.{Call, Answer, Action, TraceEntry, OnLoop, OnDisk, Note, history_after, history_after_call}
use Rattle.fwd_model.specs.DeviceActions.{on_loop, on_disk}
use Rattle.fwd_model.specs.Settings.{output_at, output_name, retries_at}
use Rattle.fwd_model.specs.Chunks.{records as records_of}
use Rattle.fwd_model.specs.ChunkStorage.{kept_of, mark_position}
use Rattle.fwd_model.specs.Routes.{owes, tries}
use Rattle.fwd_model.specs.Payloads.{delivery, tag_of_chunk}
use Rattle.fwd_model.specs.Dispatch.{due_routes, may_start}
use Rattle.fwd_model.specs.Notes.{note_then, note}
use Rattle.fwd_model.specs.ResolveActions.{dropped, drops, after_mark, marks_at, records, marks_or_removes}
use Rattle.fwd_model.specs.FlushActions.{retries, applies_answer, notes_stage, stands, notes_calls, starts_with, is_complete_read, after_read, begins_as, starts_flush, starts_if_allowed, starts_each, walk}
use Rattle.fwd_theorem_trace.specs.Dispatch.{dialled_by, dials, begun_by, flushes_begun, IsInFile, StartsOnce, IsTurn, MayNot, Starts, InVain, NotHeld, IsDispatched}
use Rattle.fwd_theorem_trace.proofs.Actions.{OnLinks, links_dialed_on}

-- a call that neither dials nor begins a flush
pub record IsQuiet (call : Call) : Type 0 where
  pub dials_none : dialled_by call ≡ []
  pub begins_none : begun_by call ≡ []

quiet_disk : (call : _) → IsQuiet (OnDisk call)
quiet_disk call = record { dials_none = refl; begins_none = refl }

-- for all answers, the action neither dials nor begins a flush, and returns the history so far
abbrev pub BeginsNothing : History → Action History → Type 0
BeginsNothing h (Return x) = x ≡ h
BeginsNothing h (Ask call go) = IsQuiet call × ((answer : Answer call) → BeginsNothing (history_after_call call h) (go answer))

pub record WentQuietly (h new : History) (es : List TraceEntry) : Type 0 where
  pub follows : new ≡ history_after es h
  pub dialled : dials es ≡ []
  pub begun : flushes_begun es ≡ []

quietly_way : (p : Action History) (h : History) (es : List TraceEntry) (new : History) → BeginsNothing h p → Execution p es (Return new) → WentQuietly h new es
quietly_way (Return x) h [] new quiet way = let is : x ≡ new = cc way in record { follows = sym is ∙ quiet; dialled = refl; begun = refl }
quietly_way (Return x) h (e ∷ es) new quiet way = absurd way
quietly_way (Ask call go) h [] new quiet way = absurd (cc way)
quietly_way (Ask call go) h (e ∷ es) new quiet way =
    subst (λ (x : TraceEntry). WentQuietly h new (x ∷ es)) (sym way.1) (more (quietly_way (go way.0) (history_after_call call h) es new (quiet.1 way.0) way.2))
  where
    more : WentQuietly (history_after_call call h) new es → WentQuietly h new (entry call way.0 ∷ es)
    more went = record {
      follows = went.follows;
      dialled = ap (λ (l : List (ℕ × List ℕ)). l ++ dials es) quiet.0.dials_none ∙ went.dialled;
      begun = ap (λ (l : List Route). l ++ flushes_begun es) quiet.0.begins_none ∙ went.begun;
    }

quietly_if : (b : Bool) (h : History) (p q : Action History) → BeginsNothing h p → BeginsNothing h q → BeginsNothing h (cond b p q)
quietly_if true h p q first second = first
quietly_if false h p q first second = second

quietly_disk : {R : Type 0} (p : DiskProgram R) (h : History) (next : R → Action History) → ((x : R) → BeginsNothing h (next x)) → BeginsNothing h (bind (on_disk p) next)
quietly_disk (Return x) h next more = more x
quietly_disk (Ask call go) h next more = (quiet_disk call, λ answer. quietly_disk (go answer) h next more)

quietly_links : {R : Type 0} (p : LoopProgram R) (h : History) (next : R → Action History) → OnLinks p → ((x : R) → BeginsNothing h (next x)) → BeginsNothing h (bind (on_loop p) next)
quietly_links (Return x) h next links more = more x
quietly_links (Ask (Push link bytes) go) h next links more = (record { dials_none = refl; begins_none = refl }, λ answer. quietly_links (go answer) h next (links.1 answer) more)
quietly_links (Ask (Close link) go) h next links more = (record { dials_none = refl; begins_none = refl }, λ answer. quietly_links (go answer) h next (links.1 answer) more)
quietly_links (Ask call go) h next links more = absurd links.0

module _ (s : AllSettings) where
  quietly_dropped : (chunk : ℕ) (h : History) (answer : Option (Unit {0})) → BeginsNothing h (dropped chunk h answer)
  quietly_dropped chunk h (Some done) = (record { dials_none = refl; begins_none = refl }, λ _. refl)
  quietly_dropped chunk h None = (record { dials_none = refl; begins_none = refl }, λ _. (record { dials_none = refl; begins_none = refl }, λ _. refl))

  quietly_drops : (chunk : ℕ) (h : History) → BeginsNothing h (drops s chunk h)
  unfolding drops
  quietly_drops chunk h = quietly_disk (removes (kept_of s h chunk)) h (dropped chunk h) (quietly_dropped chunk h)

  quietly_recorded : (r : Route) (h : History) (answer : Option Bool) → BeginsNothing h (after_mark r h answer)
  quietly_recorded r h (Some done) = (record { dials_none = refl; begins_none = refl }, λ _. refl)
  quietly_recorded r h None = (record { dials_none = refl; begins_none = refl }, λ _. refl)

  quietly_records_at : (r : Route) (kept : Option Kept) (place : Option ℕ) (h : History) → BeginsNothing h (marks_at s r kept place h)
  quietly_records_at r kept None h = refl
  quietly_records_at r kept (Some place) h =
      (record { dials_none = refl; begins_none = refl }, λ _. quietly_disk (settle_for_program kept (output_name s r.output) s.service.full) (MarkStarted r ∷ h) (after_mark r (MarkStarted r ∷ h)) (quietly_recorded r (MarkStarted r ∷ h)))

  quietly_records : (r : Route) (h : History) → BeginsNothing h (records s r h)
  unfolding records
  quietly_records r h = quietly_records_at r (kept_of s h r.chunk) (mark_position (output_name s r.output) (kept_of s h r.chunk)) h

  quietly_settles : (r : Route) (h : History) → BeginsNothing h (marks_or_removes s r h)
  unfolding marks_or_removes
  quietly_settles r h = quietly_if (owes s h r.chunk) h (records s r h) (drops s r.chunk h) (quietly_records r h) (quietly_drops r.chunk h)

  quietly_retries : (r : Route) (h : History) → BeginsNothing h (retries s r h)
  unfolding retries
  quietly_retries r h =
      quietly_if (may_retry (retries_at (output_at s r.output)) (tries h r)) h (Ask (OnLoop Word) (λ word. note (OnRoute r (Retries word)) h)) (note_then (OnRoute r Exhausted) h (marks_or_removes s r))
      (record { dials_none = refl; begins_none = refl }, λ _. (record { dials_none = refl; begins_none = refl }, λ _. refl))
      (record { dials_none = refl; begins_none = refl }, λ _. quietly_settles r (OnRoute r Exhausted ∷ h))

  quietly_answers_by : (r : Route) (answer : Answered) (h : History) → BeginsNothing h (applies_answer s r answer h)
  quietly_answers_by r Good h = (record { dials_none = refl; begins_none = refl }, λ _. quietly_settles r (OnRoute r Delivered ∷ h))
  quietly_answers_by r Retry h = quietly_retries r h
  quietly_answers_by r Bad h = (record { dials_none = refl; begins_none = refl }, λ _. quietly_settles r (OnRoute r Failed ∷ h))

  quietly_stands_in : (r : Route) (progress : Progress) (stage : Stage) (h : History) → BeginsNothing h (notes_stage s r progress stage h)
  quietly_stands_in r progress Opening h = (record { dials_none = refl; begins_none = refl }, λ _. refl)
  quietly_stands_in r progress (Writing link) h = (record { dials_none = refl; begins_none = refl }, λ _. refl)
  quietly_stands_in r progress (AwaitingAck link) h = (record { dials_none = refl; begins_none = refl }, λ _. refl)
  quietly_stands_in r progress (Ended answer) h = quietly_answers_by r answer h

  quietly_stands : (r : Route) (progress : Progress) (h : History) → BeginsNothing h (stands s r progress h)
  unfolding stands
  quietly_stands r progress h = quietly_stands_in r progress progress.stage h

  quietly_lands : (r : Route) (before : ℕ) (progress : Progress) (h : History) → BeginsNothing h (notes_calls s r before progress h)
  unfolding notes_calls
  quietly_lands r before progress h = (record { dials_none = refl; begins_none = refl }, λ _. quietly_stands r progress (Sent r.output (progress.taken - before) ∷ h))

  -- ---- a turn

  -- after its beginning and its dial, a flush does neither again
  quietly_dialed : (r : Route) (h : History) (d : Delivery) (answer : Option ℕ) → BeginsNothing h (bind (on_loop (dialed_on d not_started answer)) (λ (progress : Progress). notes_calls s r 0 progress h))
  quietly_dialed r h d answer = quietly_links (dialed_on d not_started answer) h (λ (progress : Progress). notes_calls s r 0 progress h) (links_dialed_on d not_started answer) (λ progress. quietly_lands r 0 progress h)

  pub record Started (h new : History) (r : Route) (es : List TraceEntry) : Type 0 where
    pub follows : new ≡ history_after es h
    pub once : StartsOnce h r es

  started_here : (r : Route) (events : List Event) (h new : History) (es : List TraceEntry) → Execution (starts_with s r events h) es (Return new) → Started h new r es
  unfolding starts_with starts
  started_here r events h new [] way = absurd (cc way)
  started_here r events h new (e ∷ []) way = absurd (cc way.2)
  started_here r events h new (e ∷ f ∷ es) way =
      let at : History = OnRoute r (FlushStarted events) ∷ h in
      let went = quietly_way (bind (on_loop (dialed_on (delivery s at r) not_started way.2.0)) (λ (progress : Progress). notes_calls s r 0 progress at)) at es new (quietly_dialed r at (delivery s at r) way.2.0) way.2.2 in
      subst (λ (x : TraceEntry). Started h new r (x ∷ f ∷ es)) (sym way.1)
      (subst (λ (x : TraceEntry). Started h new r (entry (Note (OnRoute r (FlushStarted events))) way.0 ∷ x ∷ es)) (sym way.2.1)
      (record {
        follows = went.follows;
        once = record { begun = ap (λ (l : List Route). r ∷ l) went.begun; dialled = ap (λ (l : List (ℕ × List ℕ)). (r.output, tag_of_chunk h r.chunk) ∷ l) went.dialled };
      }))

  -- the turn of a chunk in a file: its flush begins, or the read failed
  abbrev Reads : History → History → Route → List TraceEntry → Type 0
  Reads h new r es = (new ≡ history_after es h) × (StartsOnce h r es ⊎ ((dials es ≡ []) × ((new ≡ h) ⊎ (new ≡ IoFailed ∷ h))))

  reads_whole : (b : Bool) (r : Route) (events : List Event) (h new : History) (es : List TraceEntry) → Execution (cond b (starts_with s r events h) (Return h)) es (Return new) → Reads h new r es
  reads_whole true r events h new es way = let now = started_here r events h new es way in (now.follows, inl now.once)
  reads_whole false r events h new [] way = let is : h ≡ new = cc way in (sym is, inr (refl, inl (sym is)))
  reads_whole false r events h new (e ∷ es) way = absurd way

  reads_behind : (r : Route) (kept : ℕ) (bytes : Option (List ℕ)) (h new : History) (es : List TraceEntry) → Execution (after_read s r kept h bytes) es (Return new) → Reads h new r es
  reads_behind r kept None h new [] way = absurd (cc way)
  reads_behind r kept None h new (e ∷ []) way =
      let is : IoFailed ∷ h ≡ new = cc way.2 in
      subst (λ (x : TraceEntry). Reads h new r (x ∷ [])) (sym way.1) (sym is, inr (refl, inr (sym is)))
  reads_behind r kept None h new (e ∷ f ∷ es) way = absurd way.2
  reads_behind r kept (Some bytes) h new es way = reads_whole (is_complete_read kept bytes) r (events_in bytes).0 h new es way

  reads_first : {R : Type 0} (p : DiskProgram R) (next : R → Action History) (r : Route) (h new : History) (es : List TraceEntry)
      → ((x : R) (more : List TraceEntry) → Execution (next x) more (Return new) → Reads h new r more) → Execution (bind (on_disk p) next) es (Return new) → Reads h new r es
  reads_first (Return x) next r h new es more way = more x es way
  reads_first (Ask call go) next r h new [] more way = absurd (cc way)
  reads_first (Ask call go) next r h new (e ∷ es) more way =
      subst (λ (x : TraceEntry). Reads h new r (x ∷ es)) (sym way.1) (by (reads_first (go way.0) next r h new es more way.2))
    where
      by : Reads h new r es → Reads h new r (entry (OnDisk call) way.0 ∷ es)
      by (follows, inl once) = (follows, inl (record { begun = once.begun; dialled = once.dialled }))
      by (follows, inr vain) = (follows, inr vain)

  abbrev Turned : History → History → Route → List TraceEntry → Type 0
  Turned h new r es = (new ≡ history_after es h) × IsTurn s h new r es

  read_turned : (h new : History) (r : Route) (es : List TraceEntry) → may_start s h r ≡ true → IsInFile (kept_of s h r.chunk) → Reads h new r es → Turned h new r es
  read_turned h new r es may held (follows, inl once) = (follows, Starts may once)
  read_turned h new r es may held (follows, inr (none, left)) = (follows, InVain may (record { held = held; dialled = none; only_failure = left }))

  turned_as : (kept : Option Kept) (r : Route) (h new : History) (es : List TraceEntry) → kept_of s h r.chunk ≡ kept → may_start s h r ≡ true → Execution (begins_as s r kept h) es (Return new) → Turned h new r es
  turned_as None r h new [] is may way = let same : h ≡ new = cc way in (sym same, NotHeld is (record { none = refl; same = sym same }))
  turned_as None r h new (e ∷ es) is may way = absurd way
  turned_as (Some (InMemory content)) r h new es is may way = let now = started_here r (records_of h r.chunk) h new es way in (now.follows, Starts may now.once)
  turned_as (Some (InFile head)) r h new es is may way =
      read_turned h new r es may (subst IsInFile (sym is) tt)
      (reads_first (read_content_program (InFile head)) (after_read s r (size_of (InFile head)) h) r h new es (λ bytes more on. reads_behind r (size_of (InFile head)) bytes h new more on) way)
  turned_as (Some (Adopted head)) r h new es is may way =
      read_turned h new r es may (subst IsInFile (sym is) tt)
      (reads_first (read_content_program (Adopted head)) (after_read s r (size_of (Adopted head)) h) r h new es (λ bytes more on. reads_behind r (size_of (Adopted head)) bytes h new more on) way)

  turned_by : (b : Bool) (r : Route) (h new : History) (es : List TraceEntry) → may_start s h r ≡ b → Execution (cond b (starts_flush s r h) (Return h)) es (Return new) → Turned h new r es
  unfolding starts_flush
  turned_by true r h new es may way = turned_as (kept_of s h r.chunk) r h new es refl may way
  turned_by false r h new [] may way = let same : h ≡ new = cc way in (sym same, MayNot may (record { none = refl; same = sym same }))
  turned_by false r h new (e ∷ es) may way = absurd way

  turned : (r : Route) (h new : History) (es : List TraceEntry) → Execution (starts_if_allowed s r h) es (Return new) → Turned h new r es
  unfolding starts_if_allowed
  turned r h new es way = turned_by (may_start s h r) r h new es refl way

-- a way through an action and its continuation has a part for each
pub way_parts : {R S : Type 0} (p : Action R) (next : R → Action S) (es : List TraceEntry) (y : S) → Execution (bind p next) es (Return y)
    → (x : R) × (own : List TraceEntry) × (more : List TraceEntry) × (es ≡ own ++ more) × Execution p own (Return x) × Execution (next x) more (Return y)
way_parts (Return x) next es y way = (x, [], es, refl, refl, way)
way_parts (Ask call go) next [] y way = absurd (cc way)
way_parts (Ask call go) next (e ∷ es) y way =
    let rest = way_parts (go way.0) next es y way.2 in
    (rest.0, e ∷ rest.1, rest.2, ap (λ (l : List TraceEntry). e ∷ l) rest.3, (way.0, way.1, rest.4), rest.5)

turns_walk : (s : AllSettings) (rs : List Route) (h new : History) (es : List TraceEntry) → Execution (starts_each s rs h) es (Return new) → IsDispatched s rs h es new
turns_walk s [] h new [] way = let is : h ≡ new = cc way in (refl, sym is)
turns_walk s [] h new (e ∷ es) way = absurd way
turns_walk s (r ∷ rs) h new es way =
    let parts = way_parts (starts_if_allowed s r h) (starts_each s rs) es new way in
    let now = turned s r h parts.0 parts.1 parts.4 in (
      parts.1,
      parts.2,
      parts.3,
      subst (λ (x : History). IsTurn s h x r parts.1) now.0 now.1,
      subst (λ (x : History). IsDispatched s rs x parts.2 new) now.0 (turns_walk s rs parts.0 new parts.2 parts.5),
    )

pub walk_is_walked : (s : AllSettings) (h new : History) (es : List TraceEntry) → Execution (walk s h) es (Return new) → IsDispatched s (due_routes s h) h es new
unfolding walk
walk_is_walked s h new es way = turns_walk s (due_routes s h) h new es way
