-- Traversal of resolving, closing and flushes.
use Rattle.std.proofs.Common.{◌≡◌, ℕ, ◌-◌, true, false, List, [], ◌∷◌, Option, Some, None, refl, subst}
use Rattle.std.specs.Prelude.{nat_le}
use Rattle.std.proofs.lemmas.Bool.{eq-eqb}
use Rattle.fwd_base.specs.Limits.{full_chunk}
use Rattle.fwd_event.specs.declared.event.Event.{Event}
use Rattle.fwd_event.specs.EventPrefix.{events_in}
use Rattle.fwd_outside.specs.Program.{Return, Ask, bind}
use Rattle.fwd_outside.proofs.CrashPointLemmas.{holds_bind}
use Rattle.fwd_outside.specs.Loop.{LoopProgram, Word}
use Rattle.fwd_table.specs.Outcomes.{may_retry}
use Rattle.fwd_table.specs.declared.outcome.Answer.{Answer as Answered}
use Rattle.fwd_table.specs.declared.outcome.Answer.TheVariants.{Good, Retry, Bad}
use Rattle.fwd_chunk.specs.declared.kept.Kept.{Kept}
use Rattle.fwd_chunk.specs.declared.kept.Kept.TheVariants.{InFile, Adopted, InMemory}
use Rattle.fwd_chunk.specs.Kept.{size_of}
use Rattle.fwd_chunk.specs.Content.{read_content_program}
use Rattle.fwd_flush.specs.declared.stage.Stage.{Stage}
use Rattle.fwd_flush.specs.declared.stage.Stage.TheVariants.{Opening, Writing, AwaitingAck, Ended}
use Rattle.fwd_flush.specs.FlushProgram.{Progress, Delivery, not_started, starts, polls, backs, breaks}
use Rattle.fwd_settings.specs.declared.settings_types.AllSettings.{AllSettings}
use Rattle.fwd_model.specs.Fact.{History, Route, Outcome, FlushStarted, InFlight, Retries, Delivered, Failed, Exhausted, Evicted, ChunkClosed, Sent, OnRoute, IoFailed}
use Rattle.fwd_model.specs.Trace.{Action, OnLoop, Note}
use Rattle.fwd_model.specs.DeviceActions.{on_loop, on_disk}
use Rattle.fwd_model.specs.Settings.{output_at, retries_at}
use Rattle.fwd_model.specs.Chunks.{ChunkInfo, open_chunks, size, records as records_of}
use Rattle.fwd_model.specs.ChunkStorage.{kept_of}
use Rattle.fwd_model.specs.Routes.{owes, resolves, is_resolved, tries, flight, route_on_link}
use Rattle.fwd_model.specs.Payloads.{delivery, tag_of_chunk}
use Rattle.fwd_model.specs.Limits.{evicted_at}
use Rattle.fwd_model.specs.Dispatch.{due_routes, may_start}
use Rattle.fwd_model.specs.Notes.{note_then, note}
use Rattle.fwd_model.specs.ResolveActions.{drops, records, marks_or_removes}
use Rattle.fwd_model.specs.CloseActions.{loses, closes_chunk, closes_if_full, closes_each, closes_all}
use Rattle.fwd_model.specs.FlushActions.{retries, applies_answer, notes_stage, stands, notes_calls, starts_with, is_complete_read, after_read, begins_as, starts_flush, starts_if_allowed, starts_each, walk, goes_on, resumes, at_room, at_reply, at_break}
use Rattle.fwd_theorem_trace.specs.Past.{logged}
use Rattle.fwd_theorem_crash.specs.CrashPoint.{CrashPoint, LeadsTo}
use Rattle.fwd_theorem_crash.proofs.SimpleFacts.{IsSimple}
use Rattle.fwd_theorem_crash.proofs.RunTraversal.{after, ReturnsHistoryBy, CanTraverse, holds_ask, holds_if, deed, nothing, only, ask, loop_rests, tells_then, rests_then, MayBeginBy, ReadsBy}

resolved_now : (s : AllSettings) (r : Route) (outcome : Outcome) (h : History) → resolves outcome ≡ true → is_resolved s (OnRoute r outcome ∷ h) r ≡ true
resolved_now s r outcome h is = rw (eq-eqb r.chunk r.chunk refl, eq-eqb r.output r.output refl, is) refl

simple_resolves : (r : Route) (outcome : Outcome) → resolves outcome ≡ true → IsSimple (OnRoute r outcome)
simple_resolves r (FlushStarted events) is = absurd (cc is)
simple_resolves r (InFlight progress) is = tt
simple_resolves r (Retries word) is = tt
simple_resolves r Delivered is = tt
simple_resolves r Failed is = tt
simple_resolves r Exhausted is = tt
simple_resolves r Evicted is = tt

module _ (s : AllSettings) (P K : CrashPoint → Type 0) (can : CanTraverse s P K) where
  abbrev FlushReturnsHistory : CrashPoint → Action History → Type 0
  FlushReturnsHistory m p = ReturnsHistoryBy P K m p

  abbrev Told : History → CrashPoint → Type 0
  Told h end = (h ≡ logged end.past) × K end

  -- ---- resolving and closing

  pub tells_settles : (r : Route) (m : CrashPoint) → is_resolved s (logged m.past) r ≡ true → K m → FlushReturnsHistory m (marks_or_removes s r (logged m.past))
  unfolding marks_or_removes
  tells_settles r m resolved kept =
      holds_if P Told (owes s (logged m.past) r.chunk) m (records s r (logged m.past)) (drops s r.chunk (logged m.past))
      (λ owed. can.records r m owed resolved kept) (λ done. can.drops r.chunk m done kept)

  -- an outcome is logged, and then the route is resolved
  settled : (r : Route) (outcome : Outcome) (m : CrashPoint) → resolves outcome ≡ true → K m → FlushReturnsHistory m (note_then (OnRoute r outcome) (logged m.past) (marks_or_removes s r))
  settled r outcome m is kept =
      deed s P K can Told (OnRoute r outcome) m (marks_or_removes s r) (simple_resolves r outcome is) kept
      (λ answer then. tells_settles r (after m (Note (OnRoute r outcome)) answer) (resolved_now s r outcome (logged m.past) is) then)

  pub tells_loses : (rs : List Route) (m : CrashPoint) → K m → FlushReturnsHistory m (loses s rs (logged m.past))
  tells_loses [] m kept = nothing s P K can m kept
  tells_loses (r ∷ rs) m kept =
      deed s P K can Told (OnRoute r Evicted) m (λ at. bind (marks_or_removes s r at) (loses s rs)) tt kept
      (λ answer then.
      let at : CrashPoint = after m (Note (OnRoute r Evicted)) answer in
      tells_then s P K can Told at (marks_or_removes s r (logged at.past)) (loses s rs) (tells_settles r at (resolved_now s r Evicted (logged m.past) refl) then)
      (λ end last. tells_loses rs end last))

  -- a chunk closes if the order invariant holds once that is logged
  pub tells_shuts : (chunk : ℕ) (m : CrashPoint) → P m → ((answer : Unit {0}) → K (after m (Note (ChunkClosed chunk)) answer)) → FlushReturnsHistory m (closes_chunk s chunk (logged m.past))
  unfolding closes_chunk
  tells_shuts chunk m safe shut =
      holds_ask P Told m (Note (ChunkClosed chunk)) (λ _. loses s (evicted_at s (ChunkClosed chunk ∷ logged m.past) chunk) (ChunkClosed chunk ∷ logged m.past)) tt safe
      (λ answer. tells_loses (evicted_at s (ChunkClosed chunk ∷ logged m.past) chunk) (after m (Note (ChunkClosed chunk)) answer) (shut answer))

  pub tells_fills : (chunk : ℕ) (m : CrashPoint) → P m → (nat_le full_chunk (size (logged m.past) chunk) ≡ false → K m) → ((answer : Unit {0}) → K (after m (Note (ChunkClosed chunk)) answer)) → FlushReturnsHistory m (closes_if_full s chunk (logged m.past))
  unfolding closes_if_full
  tells_fills chunk m safe small shut =
      holds_if P Told (nat_le full_chunk (size (logged m.past) chunk)) m (closes_chunk s chunk (logged m.past)) (Return (logged m.past))
      (λ full. tells_shuts chunk m safe shut) (λ room. (safe, (refl, small room)))

  tells_closes : (cs : List ChunkInfo) (m : CrashPoint) → K m → FlushReturnsHistory m (closes_each s cs (logged m.past))
  tells_closes [] m kept = nothing s P K can m kept
  tells_closes (c ∷ cs) m kept =
      tells_then s P K can Told m (closes_chunk s c.number (logged m.past)) (closes_each s cs)
      (tells_shuts c.number m (can.now m kept) (λ answer. can.plain (ChunkClosed c.number) answer m tt kept)) (λ end then. tells_closes cs end then)

  pub tells_closes_all : (m : CrashPoint) → K m → FlushReturnsHistory m (closes_all s (logged m.past))
  unfolding closes_all
  tells_closes_all m kept = tells_closes (open_chunks (logged m.past)) m kept

  -- ---- flushes

  tells_retries : (r : Route) (m : CrashPoint) → K m → FlushReturnsHistory m (retries s r (logged m.past))
  unfolding retries
  tells_retries r m kept =
      holds_if P Told (may_retry (retries_at (output_at s r.output)) (tries (logged m.past) r)) m
      (Ask (OnLoop Word) (λ word. note (OnRoute r (Retries word)) (logged m.past))) (note_then (OnRoute r Exhausted) (logged m.past) (marks_or_removes s r))
      (λ again. ask s P K can Told m (OnLoop Word) (λ word. note (OnRoute r (Retries word)) (logged m.past)) tt tt kept
      (λ word then. only s P K can (OnRoute r (Retries word)) (after m (OnLoop Word) word) tt then))
      (λ spent. settled r Exhausted m refl kept)

  tells_answers_by : (r : Route) (answer : Answered) (m : CrashPoint) → K m → FlushReturnsHistory m (applies_answer s r answer (logged m.past))
  tells_answers_by r Good m kept = settled r Delivered m refl kept
  tells_answers_by r Retry m kept = tells_retries r m kept
  tells_answers_by r Bad m kept = settled r Failed m refl kept

  tells_stands_in : (r : Route) (progress : Progress) (stage : Stage) (m : CrashPoint) → K m → FlushReturnsHistory m (notes_stage s r progress stage (logged m.past))
  tells_stands_in r progress Opening m kept = only s P K can (OnRoute r (InFlight progress)) m tt kept
  tells_stands_in r progress (Writing link) m kept = only s P K can (OnRoute r (InFlight progress)) m tt kept
  tells_stands_in r progress (AwaitingAck link) m kept = only s P K can (OnRoute r (InFlight progress)) m tt kept
  tells_stands_in r progress (Ended answer) m kept = tells_answers_by r answer m kept

  tells_stands : (r : Route) (progress : Progress) (m : CrashPoint) → K m → FlushReturnsHistory m (stands s r progress (logged m.past))
  unfolding stands
  tells_stands r progress m kept = tells_stands_in r progress progress.stage m kept

  tells_lands : (r : Route) (before : ℕ) (progress : Progress) (m : CrashPoint) → K m → FlushReturnsHistory m (notes_calls s r before progress (logged m.past))
  unfolding notes_calls
  tells_lands r before progress m kept =
      deed s P K can Told (Sent r.output (progress.taken - before)) m (stands s r progress) tt kept
      (λ answer then. tells_stands r progress (after m (Note (Sent r.output (progress.taken - before))) answer) then)

  tells_begins_with : (r : Route) (events : List Event) (m : CrashPoint) → K m → MayBeginBy K r events m → FlushReturnsHistory m (starts_with s r events (logged m.past))
  unfolding starts_with
  tells_begins_with r events m kept begun =
      holds_ask P Told m (Note (OnRoute r (FlushStarted events)))
      (λ _. bind (on_loop (starts (delivery s (OnRoute r (FlushStarted events) ∷ logged m.past) r) r.output (tag_of_chunk (OnRoute r (FlushStarted events) ∷ logged m.past) r.chunk) not_started)) (λ progress. notes_calls s r 0 progress (OnRoute r (FlushStarted events) ∷ logged m.past))) tt (can.now m kept)
      (λ answer.
      let at : CrashPoint = after m (Note (OnRoute r (FlushStarted events))) answer in
      let dials : LoopProgram Progress = starts (delivery s (logged at.past) r) r.output (tag_of_chunk (logged at.past) r.chunk) not_started in
      rests_then s P K can Told at (on_loop dials) (λ progress h. notes_calls s r 0 progress h) (loop_rests s P K can dials at (logged at.past) refl (begun answer))
      (λ progress end same last. tells_lands r 0 progress end last))

  tells_read_behind : (r : Route) (kept_size : ℕ) (bytes : Option (List ℕ)) (m : CrashPoint) → K m → ((read : List ℕ) → bytes ≡ Some read → MayBeginBy K r (events_in read).0 m) → FlushReturnsHistory m (after_read s r kept_size (logged m.past) bytes)
  tells_read_behind r kept_size None m kept begun = only s P K can IoFailed m tt kept
  tells_read_behind r kept_size (Some bytes) m kept begun =
      holds_if P Told (is_complete_read kept_size bytes) m (starts_with s r (events_in bytes).0 (logged m.past)) (Return (logged m.past))
      (λ whole. tells_begins_with r (events_in bytes).0 m kept (begun bytes refl)) (λ not_whole. nothing s P K can m kept)

  tells_begins_read : (r : Route) (held : Kept) (m : CrashPoint) → ReadsBy P K r m held → FlushReturnsHistory m (bind (on_disk (read_content_program held)) (after_read s r (size_of held) (logged m.past)))
  tells_begins_read r held m reads =
      holds_bind LeadsTo P (λ bytes end. (logged end.past ≡ logged m.past) × (K end × ((read : List ℕ) → bytes ≡ Some read → MayBeginBy K r (events_in read).0 end))) Told m (on_disk (read_content_program held))
      (after_read s r (size_of held) (logged m.past)) reads
      (λ bytes end is. subst (λ (h : History). FlushReturnsHistory end (after_read s r (size_of held) h bytes)) is.0 (tells_read_behind r (size_of held) bytes end is.1.0 is.1.1))

  tells_begins_as : (r : Route) (held : Option Kept) (m : CrashPoint) → kept_of s (logged m.past) r.chunk ≡ held → may_start s (logged m.past) r ≡ true → K m → FlushReturnsHistory m (begins_as s r held (logged m.past))
  tells_begins_as r None m is may kept = nothing s P K can m kept
  tells_begins_as r (Some (InMemory content)) m is may kept = tells_begins_with r (records_of (logged m.past) r.chunk) m kept (can.memory r content m is kept)
  tells_begins_as r (Some (InFile head)) m is may kept = tells_begins_read r (InFile head) m (can.reads r head m may is kept)
  tells_begins_as r (Some (Adopted head)) m is may kept = tells_begins_read r (Adopted head) m (can.finds r head m may is kept)

  tells_begins : (r : Route) (m : CrashPoint) → may_start s (logged m.past) r ≡ true → K m → FlushReturnsHistory m (starts_flush s r (logged m.past))
  unfolding starts_flush
  tells_begins r m may kept = tells_begins_as r (kept_of s (logged m.past) r.chunk) m refl may kept

  tells_turn : (r : Route) (m : CrashPoint) → K m → FlushReturnsHistory m (starts_if_allowed s r (logged m.past))
  unfolding starts_if_allowed
  tells_turn r m kept =
      holds_if P Told (may_start s (logged m.past) r) m (starts_flush s r (logged m.past)) (Return (logged m.past)) (λ may. tells_begins r m may kept) (λ no. nothing s P K can m kept)

  tells_turns : (rs : List Route) (m : CrashPoint) → K m → FlushReturnsHistory m (starts_each s rs (logged m.past))
  tells_turns [] m kept = nothing s P K can m kept
  tells_turns (r ∷ rs) m kept = tells_then s P K can Told m (starts_if_allowed s r (logged m.past)) (starts_each s rs) (tells_turn r m kept) (λ end then. tells_turns rs end then)

  pub tells_walk : (m : CrashPoint) → K m → FlushReturnsHistory m (walk s (logged m.past))
  unfolding walk
  tells_walk m kept = tells_turns (due_routes s (logged m.past)) m kept

  tells_goes_on : (go : Delivery → Progress → LoopProgram Progress) (r : Route) (at : Option Progress) (m : CrashPoint) → K m → FlushReturnsHistory m (goes_on s (λ d p. on_loop (go d p)) r at (logged m.past))
  tells_goes_on go r None m kept = nothing s P K can m kept
  tells_goes_on go r (Some progress) m kept =
      let calls : LoopProgram Progress = go (delivery s (logged m.past) r) progress in
      rests_then s P K can Told m (on_loop calls) (λ p h. notes_calls s r progress.taken p h) (loop_rests s P K can calls m (logged m.past) refl kept)
      (λ p end same then. tells_lands r progress.taken p end then)

  tells_resumes : (go : Delivery → Progress → LoopProgram Progress) (r : Option Route) (m : CrashPoint) → K m → FlushReturnsHistory m (resumes s (λ d p. on_loop (go d p)) r (logged m.past))
  tells_resumes go None m kept = nothing s P K can m kept
  tells_resumes go (Some r) m kept = tells_goes_on go r (flight (logged m.past) r) m kept

  pub tells_has_room : (link : ℕ) (m : CrashPoint) → K m → FlushReturnsHistory m (at_room s link (logged m.past))
  unfolding at_room
  tells_has_room link m kept = tells_resumes (λ d p. polls d p) (route_on_link (logged m.past) link) m kept

  pub tells_comes_back : (link : ℕ) (bytes : List ℕ) (m : CrashPoint) → K m → FlushReturnsHistory m (at_reply s link bytes (logged m.past))
  unfolding at_reply
  tells_comes_back link bytes m kept = tells_resumes (λ d p. backs d bytes p) (route_on_link (logged m.past) link) m kept

  pub tells_has_broken : (link : ℕ) (m : CrashPoint) → K m → FlushReturnsHistory m (at_break s link (logged m.past))
  unfolding at_break
  tells_has_broken link m kept = tells_resumes (λ d p. breaks p) (route_on_link (logged m.past) link) m kept
