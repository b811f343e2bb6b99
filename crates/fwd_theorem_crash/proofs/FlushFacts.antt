-- Traversal of a run, fact by fact: resolving, closing and flushes.
use Rattle.std.proofs.Common.{◌≡◌, ℕ, ◌-◌, Bool, true, false, cond, List, [], ◌∷◌, Option, Some, None, refl, sym, ◌∙◌, subst}
use Rattle.std.specs.Prelude.{Contains, ◌&&◌, nat_le}
use Rattle.fwd_base.specs.Limits.{full_chunk}
use Rattle.fwd_event.specs.declared.event.Event.{Event}
use Rattle.fwd_event.specs.EventPrefix.{events_in}
use Rattle.fwd_outside.specs.Program.{entry, Return, Ask, bind, Execution}
use Rattle.fwd_outside.specs.Loop.{LoopProgram, Word}
use Rattle.fwd_outside.specs.Disk.{DiskProgram}
use Rattle.fwd_outside.specs.Files.{FilesProgram}
use Rattle.fwd_table.specs.Outcomes.{may_retry}
use Rattle.fwd_table.specs.declared.outcome.Answer.{Answer as Answered}
use Rattle.fwd_table.specs.declared.outcome.Answer.TheVariants.{Good, Retry, Bad}
use Rattle.fwd_chunk.specs.declared.kept.Kept.{Kept}
use Rattle.fwd_chunk.specs.declared.kept.Kept.TheVariants.{InFile, Adopted, InMemory}
use Rattle.fwd_chunk.specs.Kept.{size_of}
use Rattle.fwd_chunk.specs.Content.{read_content_program}
use Rattle.fwd_store.specs.Store.{drops as removes, settle_for_program}
use Rattle.fwd_flush.specs.declared.stage.Stage.{Stage}
use Rattle.fwd_flush.specs.declared.stage.Stage.TheVariants.{Opening, Writing, AwaitingAck, Ended}
use Rattle.fwd_flush.specs.FlushProgram.{Progress, Delivery, not_started, starts, polls, backs, breaks}
use Rattle.fwd_settings.specs.declared.settings_types.AllSettings.{AllSettings}
use Rattle.fwd_model.specs.Fact.{Fact, History, Route, Outcome, FlushStarted, InFlight, Retries, Delivered, Failed, Exhausted, Evicted, ChunkClosed, Sent, OnRoute, MarkStarted, Marked, Removed, FileLeft, IoFailed}
use Rattle.fwd_model.specs.Trace.{Answer, Action, TraceEntry, OnLoop, history_after_call}
use Rattle.fwd_model.specs.DeviceActions.{on_loop, on_disk, on_files}
use Rattle.fwd_model.specs.Settings.{output_at, output_name, retries_at}
use Rattle.fwd_model.specs.Chunks.{ChunkInfo, open_chunks, size, records as records_of}
use Rattle.fwd_model.specs.ChunkStorage.{kept_of, mark_position}
use Rattle.fwd_model.specs.Routes.{owes, tries, flight, route_on_link, resolves, is_resolved, same_route}
use Rattle.fwd_model.specs.Payloads.{delivery, tag_of_chunk}
use Rattle.fwd_model.specs.Limits.{evicted_at}
use Rattle.fwd_model.specs.Dispatch.{due_routes, may_start}
use Rattle.fwd_model.specs.Notes.{note_then, note}
use Rattle.fwd_model.specs.ResolveActions.{dropped, drops, after_mark, marks_at, records, marks_or_removes}
use Rattle.fwd_model.specs.CloseActions.{loses, closes_chunk, closes_if_full, closes_each, closes_all}
use Rattle.fwd_model.specs.FlushActions.{retries, applies_answer, notes_stage, stands, notes_calls, starts_with, is_complete_read, after_read, begins_as, starts_flush, starts_if_allowed, starts_each, walk, goes_on, resumes, at_room, at_reply, at_break}
use Rattle.fwd_theorem_trace.specs.Past.{Past, logged, past_after}
use Rattle.fwd_theorem_trace.specs.Allowed.{Allowed}
use Rattle.fwd_theorem_trace.specs.Sound.{Sound}
use Rattle.fwd_theorem_trace.proofs.Members.{here, deeper}
use Rattle.fwd_theorem_trace.proofs.Invariant.{sound}
use Rattle.fwd_theorem_crash.proofs.EvictedRoutes.{Pairwise, IsOther, lost_apart, lost_open, may_open}
use Rattle.fwd_theorem_crash.proofs.RecordedFacts.{was_recorded, RecordedLasts, MayCome, lasts_fact, not_recorded, resolved_now, open_still}

-- For all answers, recorded outcomes stay, and Q holds of the result and the history so far. The
-- histories on the way are sound.
abbrev pub Runs : AllSettings → {R : Type 0} → (R → History → Type 0) → History → Action R → Type 0
Runs s Q h (Return x) = RecordedLasts s h × Q x h
Runs s Q h (Ask call go) = RecordedLasts s h × ((answer : Answer call) → Sound s (history_after_call call h) → Runs s Q (history_after_call call h) (go answer))

off_and : (b c : Bool) → c ≡ false → (b && c) ≡ false
off_and true c is = is
off_and false c is = refl

module _ (s : AllSettings) where
  -- the action returns the history so far
  abbrev pub RunsToHistory : History → Action History → Type 0
  RunsToHistory h p = Runs s (λ (x : History) (now : History). x ≡ now) h p

  -- and resolves nothing
  abbrev ResolvesNothing : History → History → Action History → Type 0
  ResolvesNothing old h p = Runs s (λ (x : History) (now : History). (x ≡ now) × ((q : Route) → is_resolved s now q ≡ is_resolved s old q)) h p

  pub lasts_now : {R : Type 0} (Q : R → History → Type 0) (h : History) (p : Action R) → Runs s Q h p → RecordedLasts s h
  lasts_now Q h (Return x) runs = runs.0
  lasts_now Q h (Ask call go) runs = runs.0

  due_before : (past : Past) (es : List TraceEntry) → Allowed s (past_after past es) → Allowed s past
  due_before past [] due = due
  due_before past (e ∷ es) due = (due_before (e ∷ past) es due).1

  -- along a way of which each entry is allowed
  pub runs_on : {R : Type 0} (Q : R → History → Type 0) (past : Past) (p : Action R) → Runs s Q (logged past) p
      → (es : List TraceEntry) (left : Action R) → Execution p es left → Allowed s (past_after past es) → Runs s Q (logged (past_after past es)) left
  runs_on {R = R} Q past p runs [] left way due = subst (λ (q : Action R). Runs s Q (logged past) q) (sym way) runs
  runs_on Q past (Return x) runs (e ∷ es) left way due = absurd way
  runs_on Q past (Ask call go) runs (e ∷ es) left way due =
      let at : Past = entry call way.0 ∷ past in
      let now = subst (λ (x : TraceEntry). Allowed s (past_after (x ∷ past) es)) way.1 due in
      subst (λ (x : TraceEntry). Runs s Q (logged (past_after (x ∷ past) es)) left) (sym way.1)
      (runs_on Q at (go way.0) (runs.1 way.0 (sound s at (due_before at es now))) es left way.2 now)

  pub runs_bind : {R S : Type 0} (M : R → History → Type 0) (Q : S → History → Type 0) (h : History) (p : Action R) (next : R → Action S)
      → Runs s M h p → ((x : R) (now : History) → RecordedLasts s now → M x now → Runs s Q now (next x)) → Runs s Q h (bind p next)
  runs_bind M Q h (Return x) next first second = second x h first.0 first.1
  runs_bind M Q h (Ask call go) next first second = (first.0, λ answer sound. runs_bind M Q (history_after_call call h) (go answer) next (first.1 answer sound) second)

  pub runs_if : {R : Type 0} (Q : R → History → Type 0) (b : Bool) (h : History) (p q : Action R) → (b ≡ true → Runs s Q h p) → (b ≡ false → Runs s Q h q) → Runs s Q h (cond b p q)
  runs_if Q true h p q first second = first refl
  runs_if Q false h p q first second = second refl

  -- an action, and then the continuation of the history so far
  pub runs_then : {R : Type 0} (Q : R → History → Type 0) (h : History) (p : Action History) (next : History → Action R) → RunsToHistory h p
      → ((now : History) → RecordedLasts s now → Runs s Q now (next now)) → Runs s Q h (bind p next)
  runs_then Q h p next first second =
      runs_bind (λ (x : History) (now : History). x ≡ now) Q h p next first (λ x now lasts is. subst (λ (y : History). Runs s Q now (next y)) (sym is) (second now lasts))

  -- calls that log nothing, and then the continuation of their answer
  pub disk_then : {R T : Type 0} (Q : T → History → Type 0) (h : History) (p : DiskProgram R) (next : R → Action T) → RecordedLasts s h → ((x : R) → Runs s Q h (next x)) → Runs s Q h (bind (on_disk p) next)
  disk_then Q h (Return x) next lasts more = more x
  disk_then Q h (Ask call go) next lasts more = (lasts, λ answer sound. disk_then Q h (go answer) next lasts more)

  pub files_then : {R T : Type 0} (Q : T → History → Type 0) (h : History) (p : FilesProgram R) (next : R → Action T) → RecordedLasts s h → ((x : R) → Runs s Q h (next x)) → Runs s Q h (bind (on_files p) next)
  files_then Q h (Return x) next lasts more = more x
  files_then Q h (Ask call go) next lasts more = (lasts, λ answer sound. files_then Q h (go answer) next lasts more)

  loop_then : {R T : Type 0} (Q : T → History → Type 0) (h : History) (p : LoopProgram R) (next : R → Action T) → RecordedLasts s h → ((x : R) → Runs s Q h (next x)) → Runs s Q h (bind (on_loop p) next)
  loop_then Q h (Return x) next lasts more = more x
  loop_then Q h (Ask call go) next lasts more = (lasts, λ answer sound. loop_then Q h (go answer) next lasts more)

  -- a fact is logged
  pub notes : {R : Type 0} (Q : R → History → Type 0) (fact : Fact) (h : History) (next : History → Action R) → MayCome s fact h → RecordedLasts s h
      → (Sound s (fact ∷ h) → RecordedLasts s (fact ∷ h) → Runs s Q (fact ∷ h) (next (fact ∷ h))) → Runs s Q h (note_then fact h next)
  notes Q fact h next may lasts more = (lasts, λ answer sound. more sound (lasts_fact s fact h may lasts))

  pub only : (fact : Fact) (h : History) → MayCome s fact h → RecordedLasts s h → RunsToHistory h (note fact h)
  only fact h may lasts = (lasts, λ answer sound. (lasts_fact s fact h may lasts, refl))

  -- ---- resolving

  settled_dropped : (chunk : ℕ) (h : History) (answer : Option (Unit {0})) → RecordedLasts s h → ResolvesNothing h h (dropped chunk h answer)
  settled_dropped chunk h (Some done) lasts = (lasts, λ answer sound. (lasts_fact s (Removed chunk) h tt lasts, (refl, λ q. refl)))
  settled_dropped chunk h None lasts = (
    lasts,
    λ answer sound.
        let then = lasts_fact s IoFailed h tt lasts in
        (then, λ more last. (lasts_fact s (FileLeft chunk) (IoFailed ∷ h) tt then, (refl, λ q. refl))),
  )

  settled_drops : (chunk : ℕ) (h : History) → RecordedLasts s h → ResolvesNothing h h (drops s chunk h)
  unfolding drops
  settled_drops chunk h lasts =
      disk_then (λ (x : History) (now : History). (x ≡ now) × ((q : Route) → is_resolved s now q ≡ is_resolved s h q)) h (removes (kept_of s h chunk)) (dropped chunk h) lasts
      (λ answer. settled_dropped chunk h answer lasts)

  settled_recorded : (r : Route) (h : History) (answer : Option Bool) → is_resolved s h r ≡ true → RecordedLasts s h → ResolvesNothing h h (after_mark r h answer)
  settled_recorded r h (Some done) resolved lasts = (lasts, λ answer sound. (lasts_fact s (Marked r) h resolved lasts, (refl, λ q. refl)))
  settled_recorded r h None resolved lasts = (lasts, λ answer sound. (lasts_fact s IoFailed h tt lasts, (refl, λ q. refl)))

  settled_records_at : (r : Route) (kept : Option Kept) (place : Option ℕ) (h : History) → is_resolved s h r ≡ true → was_recorded s h r ≡ false → RecordedLasts s h → ResolvesNothing h h (marks_at s r kept place h)
  settled_records_at r kept None h resolved new lasts = (lasts, (refl, λ q. refl))
  settled_records_at r kept (Some place) h resolved new lasts = (
    lasts,
    λ answer sound.
        let at : History = MarkStarted r ∷ h in
        let then = lasts_fact s (MarkStarted r) h new lasts in
        disk_then (λ (x : History) (now : History). (x ≡ now) × ((q : Route) → is_resolved s now q ≡ is_resolved s h q)) at (settle_for_program kept (output_name s r.output) s.service.full) (after_mark r at) then
        (λ done. settled_recorded r at done resolved then),
  )

  settled_records : (r : Route) (h : History) → is_resolved s h r ≡ true → was_recorded s h r ≡ false → RecordedLasts s h → ResolvesNothing h h (records s r h)
  unfolding records
  settled_records r h resolved new lasts = settled_records_at r (kept_of s h r.chunk) (mark_position (output_name s r.output) (kept_of s h r.chunk)) h resolved new lasts

  settled : (r : Route) (h : History) → is_resolved s h r ≡ true → was_recorded s h r ≡ false → RecordedLasts s h → ResolvesNothing h h (marks_or_removes s r h)
  unfolding marks_or_removes
  settled r h resolved new lasts =
      runs_if (λ (x : History) (now : History). (x ≡ now) × ((q : Route) → is_resolved s now q ≡ is_resolved s h q)) (owes s h r.chunk) h (records s r h) (drops s r.chunk h)
      (λ yes. settled_records r h resolved new lasts) (λ no. settled_drops r.chunk h lasts)

  may_resolve : (r : Route) (outcome : Outcome) (h : History) → resolves outcome ≡ true → MayCome s (OnRoute r outcome) h
  may_resolve r (FlushStarted events) h is = absurd (cc is)
  may_resolve r (InFlight progress) h is = absurd (cc is)
  may_resolve r (Retries word) h is = absurd (cc is)
  may_resolve r Delivered h is = tt
  may_resolve r Failed h is = tt
  may_resolve r Exhausted h is = tt
  may_resolve r Evicted h is = tt

  -- a route that wasn't resolved now is, and then its resolving goes on
  resolving : {R : Type 0} (Q : R → History → Type 0) (r : Route) (outcome : Outcome) (h : History) (next : History → Action R) → resolves outcome ≡ true → is_resolved s h r ≡ false → RecordedLasts s h
      → ((now : History) → ((q : Route) → is_resolved s now q ≡ is_resolved s (OnRoute r outcome ∷ h) q) → RecordedLasts s now → Runs s Q now (next now))
      → Runs s Q h (note_then (OnRoute r outcome) h (λ at. bind (marks_or_removes s r at) next))
  resolving {R = R} Q r outcome h next is off lasts more = (
    lasts,
    λ answer sound.
        let at : History = OnRoute r outcome ∷ h in
        let then = lasts_fact s (OnRoute r outcome) h (may_resolve r outcome h is) lasts in
        runs_bind (λ (x : History) (now : History). (x ≡ now) × ((q : Route) → is_resolved s now q ≡ is_resolved s at q)) Q at (marks_or_removes s r at) next
        (settled r at (resolved_now s r outcome h is) (not_recorded s h r lasts off) then)
        (λ x now last reached. subst (λ (y : History). Runs s Q now (next y)) (sym reached.0) (more now reached.1 last)),
  )

  told_settles : (old h : History) (p : Action History) → ResolvesNothing old h p → RunsToHistory h p
  told_settles old h (Return x) runs = (runs.0, runs.1.0)
  told_settles old h (Ask call go) runs = (runs.0, λ answer sound. told_settles old (history_after_call call h) (go answer) (runs.1 answer sound))

  resolved_last : (r : Route) (outcome : Outcome) (h : History) → resolves outcome ≡ true → is_resolved s h r ≡ false → RecordedLasts s h → RunsToHistory h (note_then (OnRoute r outcome) h (marks_or_removes s r))
  resolved_last r outcome h is off lasts = (
    lasts,
    λ answer sound.
        let at : History = OnRoute r outcome ∷ h in
        told_settles at at (marks_or_removes s r at)
        (settled r at (resolved_now s r outcome h is) (not_recorded s h r lasts off) (lasts_fact s (OnRoute r outcome) h (may_resolve r outcome h is) lasts)),
  )

  -- ---- closing

  tells_loses : (rs : List Route) (h : History) → Pairwise IsOther rs → ((r : Route) → Contains rs r → is_resolved s h r ≡ false) → RecordedLasts s h → RunsToHistory h (loses s rs h)
  tells_loses [] h apart off lasts = (lasts, refl)
  tells_loses (r ∷ rs) h apart off lasts =
      resolving (λ (x : History) (now : History). x ≡ now) r Evicted h (loses s rs) refl (off r (here r rs)) lasts
      (λ now same last. tells_loses rs now apart.1 (λ q has. same q ∙ other_off q has) last)
    where
      other_off : (q : Route) → Contains rs q → is_resolved s (OnRoute r Evicted ∷ h) q ≡ false
      other_off q has = open_still s r q Evicted h (rw (apart.0 q has) refl) (off q (deeper r rs q has))

  pub tells_shuts : (chunk : ℕ) (h : History) → RecordedLasts s h → RunsToHistory h (closes_chunk s chunk h)
  unfolding closes_chunk
  tells_shuts chunk h lasts =
      notes (λ (x : History) (now : History). x ≡ now) (ChunkClosed chunk) h (λ at. loses s (evicted_at s at chunk) at) tt lasts
      (λ sound then. tells_loses (evicted_at s (ChunkClosed chunk ∷ h) chunk) (ChunkClosed chunk ∷ h) (lost_apart s (ChunkClosed chunk ∷ h) chunk sound) (lost_open s (ChunkClosed chunk ∷ h) chunk) then)

  pub tells_fills : (chunk : ℕ) (h : History) → RecordedLasts s h → RunsToHistory h (closes_if_full s chunk h)
  unfolding closes_if_full
  tells_fills chunk h lasts =
      runs_if (λ (x : History) (now : History). x ≡ now) (nat_le full_chunk (size h chunk)) h (closes_chunk s chunk h) (Return h) (λ yes. tells_shuts chunk h lasts) (λ no. (lasts, refl))

  tells_closes : (cs : List ChunkInfo) (h : History) → RecordedLasts s h → RunsToHistory h (closes_each s cs h)
  tells_closes [] h lasts = (lasts, refl)
  tells_closes (c ∷ cs) h lasts =
      runs_then (λ (x : History) (now : History). x ≡ now) h (closes_chunk s c.number h) (closes_each s cs) (tells_shuts c.number h lasts) (λ now then. tells_closes cs now then)

  pub tells_closes_all : (h : History) → RecordedLasts s h → RunsToHistory h (closes_all s h)
  unfolding closes_all
  tells_closes_all h lasts = tells_closes (open_chunks h) h lasts

  -- ---- flushes

  tells_retries : (r : Route) (h : History) → is_resolved s h r ≡ false → RecordedLasts s h → RunsToHistory h (retries s r h)
  unfolding retries
  tells_retries r h off lasts =
      runs_if (λ (x : History) (now : History). x ≡ now) (may_retry (retries_at (output_at s r.output)) (tries h r)) h (Ask (OnLoop Word) (λ word. note (OnRoute r (Retries word)) h)) (note_then (OnRoute r Exhausted) h (marks_or_removes s r))
      (λ yes. (lasts, λ word sound. only (OnRoute r (Retries word)) h tt lasts)) (λ no. resolved_last r Exhausted h refl off lasts)

  tells_answers_by : (r : Route) (answer : Answered) (h : History) → is_resolved s h r ≡ false → RecordedLasts s h → RunsToHistory h (applies_answer s r answer h)
  tells_answers_by r Good h off lasts = resolved_last r Delivered h refl off lasts
  tells_answers_by r Retry h off lasts = tells_retries r h off lasts
  tells_answers_by r Bad h off lasts = resolved_last r Failed h refl off lasts

  tells_stands_in : (r : Route) (progress : Progress) (stage : Stage) (h : History) → is_resolved s h r ≡ false → RecordedLasts s h → RunsToHistory h (notes_stage s r progress stage h)
  tells_stands_in r progress Opening h off lasts = only (OnRoute r (InFlight progress)) h off lasts
  tells_stands_in r progress (Writing link) h off lasts = only (OnRoute r (InFlight progress)) h off lasts
  tells_stands_in r progress (AwaitingAck link) h off lasts = only (OnRoute r (InFlight progress)) h off lasts
  tells_stands_in r progress (Ended answer) h off lasts = tells_answers_by r answer h off lasts

  tells_stands : (r : Route) (progress : Progress) (h : History) → is_resolved s h r ≡ false → RecordedLasts s h → RunsToHistory h (stands s r progress h)
  unfolding stands
  tells_stands r progress h off lasts = tells_stands_in r progress progress.stage h off lasts

  tells_lands : (r : Route) (before : ℕ) (progress : Progress) (h : History) → is_resolved s h r ≡ false → RecordedLasts s h → RunsToHistory h (notes_calls s r before progress h)
  unfolding notes_calls
  tells_lands r before progress h off lasts =
      notes (λ (x : History) (now : History). x ≡ now) (Sent r.output (progress.taken - before)) h (stands s r progress) tt lasts
      (λ sound then. tells_stands r progress (Sent r.output (progress.taken - before) ∷ h) off then)

  tells_begins_with : (r : Route) (events : List Event) (h : History) → is_resolved s h r ≡ false → RecordedLasts s h → RunsToHistory h (starts_with s r events h)
  unfolding starts_with
  tells_begins_with r events h off lasts =
      notes (λ (x : History) (now : History). x ≡ now) (OnRoute r (FlushStarted events)) h
      (λ at. bind (on_loop (starts (delivery s at r) r.output (tag_of_chunk at r.chunk) not_started)) (λ progress. notes_calls s r 0 progress at)) tt lasts
      (λ sound then.
      let at : History = OnRoute r (FlushStarted events) ∷ h in
      let off_still = open_still s r r (FlushStarted events) h (off_and (same_route r r) false refl) off in
      loop_then (λ (x : History) (now : History). x ≡ now) at (starts (delivery s at r) r.output (tag_of_chunk at r.chunk) not_started) (λ progress. notes_calls s r 0 progress at) then
      (λ progress. tells_lands r 0 progress at off_still then))

  tells_read_behind : (r : Route) (kept : ℕ) (h : History) (bytes : Option (List ℕ)) → is_resolved s h r ≡ false → RecordedLasts s h → RunsToHistory h (after_read s r kept h bytes)
  tells_read_behind r kept h None off lasts = only IoFailed h tt lasts
  tells_read_behind r kept h (Some bytes) off lasts =
      runs_if (λ (x : History) (now : History). x ≡ now) (is_complete_read kept bytes) h (starts_with s r (events_in bytes).0 h) (Return h)
      (λ yes. tells_begins_with r (events_in bytes).0 h off lasts) (λ no. (lasts, refl))

  tells_begins_read : (r : Route) (kept : Kept) (h : History) → is_resolved s h r ≡ false → RecordedLasts s h → RunsToHistory h (bind (on_disk (read_content_program kept)) (after_read s r (size_of kept) h))
  tells_begins_read r kept h off lasts =
      disk_then (λ (x : History) (now : History). x ≡ now) h (read_content_program kept) (after_read s r (size_of kept) h) lasts (λ bytes. tells_read_behind r (size_of kept) h bytes off lasts)

  tells_begins_as : (r : Route) (kept : Option Kept) (h : History) → is_resolved s h r ≡ false → RecordedLasts s h → RunsToHistory h (begins_as s r kept h)
  tells_begins_as r None h off lasts = (lasts, refl)
  tells_begins_as r (Some (InMemory content)) h off lasts = tells_begins_with r (records_of h r.chunk) h off lasts
  tells_begins_as r (Some (InFile head)) h off lasts = tells_begins_read r (InFile head) h off lasts
  tells_begins_as r (Some (Adopted head)) h off lasts = tells_begins_read r (Adopted head) h off lasts

  tells_begins : (r : Route) (h : History) → is_resolved s h r ≡ false → RecordedLasts s h → RunsToHistory h (starts_flush s r h)
  unfolding starts_flush
  tells_begins r h off lasts = tells_begins_as r (kept_of s h r.chunk) h off lasts

  tells_turn : (r : Route) (h : History) → RecordedLasts s h → RunsToHistory h (starts_if_allowed s r h)
  unfolding starts_if_allowed
  tells_turn r h lasts =
      runs_if (λ (x : History) (now : History). x ≡ now) (may_start s h r) h (starts_flush s r h) (Return h) (λ may. tells_begins r h (may_open s h r may) lasts) (λ no. (lasts, refl))

  tells_turns : (rs : List Route) (h : History) → RecordedLasts s h → RunsToHistory h (starts_each s rs h)
  tells_turns [] h lasts = (lasts, refl)
  tells_turns (r ∷ rs) h lasts = runs_then (λ (x : History) (now : History). x ≡ now) h (starts_if_allowed s r h) (starts_each s rs) (tells_turn r h lasts) (λ now then. tells_turns rs now then)

  pub tells_walk : (h : History) → RecordedLasts s h → RunsToHistory h (walk s h)
  unfolding walk
  tells_walk h lasts = tells_turns (due_routes s h) h lasts

  tells_goes_on : (go : Delivery → Progress → LoopProgram Progress) (r : Route) (h : History) (at : Option Progress) → flight h r ≡ at → RecordedLasts s h → RunsToHistory h (goes_on s (λ d p. on_loop (go d p)) r at h)
  tells_goes_on go r h None is lasts = (lasts, refl)
  tells_goes_on go r h (Some progress) is lasts =
      loop_then (λ (x : History) (now : History). x ≡ now) h (go (delivery s h r) progress) (λ now. notes_calls s r progress.taken now h) lasts
      (λ now. tells_lands r progress.taken now h (lasts.flying r progress is) lasts)

  tells_resumes : (go : Delivery → Progress → LoopProgram Progress) (r : Option Route) (h : History) → RecordedLasts s h → RunsToHistory h (resumes s (λ d p. on_loop (go d p)) r h)
  tells_resumes go None h lasts = (lasts, refl)
  tells_resumes go (Some r) h lasts = tells_goes_on go r h (flight h r) refl lasts

  pub tells_has_room : (link : ℕ) (h : History) → RecordedLasts s h → RunsToHistory h (at_room s link h)
  unfolding at_room
  tells_has_room link h lasts = tells_resumes (λ d p. polls d p) (route_on_link h link) h lasts

  pub tells_comes_back : (link : ℕ) (bytes : List ℕ) (h : History) → RecordedLasts s h → RunsToHistory h (at_reply s link bytes h)
  unfolding at_reply
  tells_comes_back link bytes h lasts = tells_resumes (λ d p. backs d bytes p) (route_on_link h link) h lasts

  pub tells_has_broken : (link : ℕ) (h : History) → RecordedLasts s h → RunsToHistory h (at_break s link h)
  unfolding at_break
  tells_has_broken link h lasts = tells_resumes (λ d p. breaks p) (route_on_link h link) h lasts
