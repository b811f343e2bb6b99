-- Each action on a history simulates itself on the renamed history.
use Rattle.std.proofs.Common.{◌≡◌, ◌⊎◌, inl, inr, ℕ, ◌+◌, nat_lt, Bool, true, false, cond, List, [], ◌∷◌, length, Option, Some, None, is_some, refl, sym, subst}
use Rattle.std.specs.Prelude.{nat_le}
use Rattle.std.specs.List.{range_with_len}
use Rattle.fwd_base.specs.Limits.{full_chunk, numbers_end}
use Rattle.fwd_event.specs.declared.event.Event.{Event}
use Rattle.fwd_event.specs.EventPrefix.{events_in}
use Rattle.fwd_outside.specs.Program.{Return, Ask, bind}
use Rattle.fwd_outside.specs.Disk.{DiskProgram}
use Rattle.fwd_outside.specs.Files.{FilesProgram}
use Rattle.fwd_outside.specs.declared.happening.Happening.{Happening}
use Rattle.fwd_outside.specs.declared.happening.Happening.TheVariants as happening
use Rattle.fwd_chunk.specs.declared.kept.Kept.{Kept}
use Rattle.fwd_chunk.specs.declared.kept.Kept.TheVariants.{InFile, Adopted, InMemory}
use Rattle.fwd_chunk.specs.Kept.{size_of}
use Rattle.fwd_chunk.specs.Content.{read_content_program}
use Rattle.fwd_store.specs.Store.{drops as removes, settle_for_program, append_to_program, begins_as as places}
use Rattle.fwd_table.specs.Outcomes.{may_retry}
use Rattle.fwd_table.specs.declared.outcome.Answer.{Answer}
use Rattle.fwd_table.specs.declared.outcome.Answer.TheVariants.{Good, Retry, Bad}
use Rattle.fwd_flush.specs.declared.stage.Stage.{Stage}
use Rattle.fwd_flush.specs.declared.stage.Stage.TheVariants.{Opening, Writing, AwaitingAck, Ended}
use Rattle.fwd_flush.specs.FlushProgram.{Progress, Delivery, starts, not_started, polls, backs, breaks}
use Rattle.fwd_in_tail.specs.Followed.{Followed, Polled as Poll, polls as polls_of}
use Rattle.fwd_wire.specs.Message.{MessageContent}
use Rattle.fwd_settings.specs.declared.settings_types.AllSettings.{AllSettings}
use Rattle.fwd_model.specs.Fact.{Fact, History, Stream, LineStream, MessageStream, Standard, Batch, NoChunk, NewChunk, AppendedTo, Reason, TooLarge, NoNumber, NotStored, Route, FlushStarted, InFlight, Retries, Delivered, Failed, Exhausted, Evicted, Happened, Polled, Disconnected, Malformed, Offered, Accepted, Refused, ChunkClosed, Sent, OnRoute, MarkStarted, Marked, Removed, FileLeft, IoFailed}
use Rattle.fwd_model.specs.Trace.{Action}
use Rattle.fwd_model.specs.DeviceActions.{on_loop, on_disk, on_files}
use Rattle.fwd_model.specs.Settings.{outputs_for, output_at, output_name, retries_at, home_at, names_for, paths_at, from_head_at, reads_stdin_at}
use Rattle.fwd_model.specs.Clock.{stopped, is_close_due}
use Rattle.fwd_model.specs.Streams.{stream_of, said}
use Rattle.fwd_model.specs.FollowedFiles.{file_at}
use Rattle.fwd_model.specs.Batches.{piece_batch, end_batch, poll_batch}
use Rattle.fwd_model.specs.Messages.{completed_messages, becomes_malformed, message_batch, reply_of}
use Rattle.fwd_model.specs.Chunks.{ChunkInfo, open_chunks, open_chunk, next, size, encoded, is_storable, records as records_of}
use Rattle.fwd_model.specs.ChunkStorage.{kept_of, mark_position, name_for}
use Rattle.fwd_model.specs.Routes.{owes, tries, flight, route_on_link}
use Rattle.fwd_model.specs.Payloads.{delivery, tag_of_chunk}
use Rattle.fwd_model.specs.Limits.{evicted_at, is_paused}
use Rattle.fwd_model.specs.Dispatch.{due_routes, may_start}
use Rattle.fwd_model.specs.Notes.{note_then, note, is_empty}
use Rattle.fwd_model.specs.ResolveActions.{dropped, drops, after_mark, marks_at, records, marks_or_removes}
use Rattle.fwd_model.specs.CloseActions.{loses, closes_chunk, closes_if_full, closes_each, closes_all}
use Rattle.fwd_model.specs.Acceptance.{Acceptance, taken, ends_refused, refuses, finishes_append, finishes_create, appends, starts_chunk, stores, accepts, ingests}
use Rattle.fwd_model.specs.FlushActions.{retries, applies_answer, notes_stage, stands, notes_calls, starts_with, is_complete_read, after_read, begins_as, starts_flush, starts_if_allowed, starts_each, walk, goes_on, resumes, at_room, at_reply, at_break}
use Rattle.fwd_model.specs.InputActions.{hangs_up, after_reply, replies, acknowledges, accepts_messages, accepts_stream, pieces, polled, polls_file, polls_files, polls_input, polls_inputs, polls_all}
use Rattle.fwd_model.specs.StepActions.{closes_and_dispatches, ticks, stops, at_input_end, handles, step}
use Rattle.fwd_theorem_links.specs.RenamedLinks.{renamed_event, renamed_stage, renamed_progress, renamed_fact}
use Rattle.fwd_theorem_links.specs.DialedLinks.{KeepsApart}
use Rattle.fwd_theorem_links.proofs.Simulation.{Simulates, simulates_bind, simulates_if}
use Rattle.fwd_theorem_links.proofs.FlushPrograms.{IsOnDialed, IsRenamed, simulates_starts, simulates_polls, simulates_backs, simulates_breaks}
use Rattle.fwd_theorem_links.proofs.Histories.{renamed, next_same, records_same, size_same, open_same, open_chunk_same, tries_same, renamed_flight, flight_same, stopped_same, close_due_same, stream_same, said_same, file_same, kept_same, AreDialed, route_on_link_same, dialed_flight}
use Rattle.fwd_theorem_links.proofs.Rows.{owes_same, start_same, due_routes_same, evicted_same, is_paused_same, tag_of_chunk_same, delivery_same, piece_same, end_batch_same, poll_same}

module _ (rename : ℕ → ℕ) (IsDialed : ℕ → Type 0) (HasFollowed : Type 0) where
  -- the same program of one device on both sides
  pub simulates_disk : {R A B : Type 0} (Q : A → B → Type 0) (p : DiskProgram R) (f : R → Action A) (g : R → Action B) → ((x : R) → Simulates rename IsDialed HasFollowed Q (f x) (g x)) → Simulates rename IsDialed HasFollowed Q (bind (on_disk p) f) (bind (on_disk p) g)
  simulates_disk Q (Return x) f g more = more x
  simulates_disk Q (Ask call go) f g more = ((λ x. bind (on_disk (go x)) g), refl, tt, λ x _. simulates_disk Q (go x) f g more)

  simulates_files : {R A B : Type 0} (Q : A → B → Type 0) (followed : HasFollowed) (p : FilesProgram R) (f : R → Action A) (g : R → Action B) → ((x : R) → Simulates rename IsDialed HasFollowed Q (f x) (g x)) → Simulates rename IsDialed HasFollowed Q (bind (on_files p) f) (bind (on_files p) g)
  simulates_files Q followed (Return x) f g more = more x
  simulates_files Q followed (Ask call go) f g more = ((λ x. bind (on_files (go x)) g), refl, followed, λ x _. simulates_files Q followed (go x) f g more)

module _ (rename : ℕ → ℕ) (IsDialed : ℕ → Type 0) (HasFollowed : Type 0) (apart : KeepsApart rename IsDialed) (s : AllSettings) (tails : (input : ℕ) → (paths_at s input ≡ []) ⊎ HasFollowed) where
  abbrev pub Dialed : History → Type 0
  Dialed h = AreDialed rename IsDialed apart h

  abbrev pub Corresponds : History → History → Type 0
  Corresponds h k = (k ≡ renamed rename h) × Dialed h

  abbrev pub SimulatesHistory : Action History → Action History → Type 0
  SimulatesHistory p q = Simulates rename IsDialed HasFollowed Corresponds p q

  -- one action on histories and then another
  then_on : (p q : Action History) (f g : History → Action History) → SimulatesHistory p q → ((at : History) → Dialed at → SimulatesHistory (f at) (g (renamed rename at))) → SimulatesHistory (bind p f) (bind q g)
  then_on p q f g first more = simulates_bind rename IsDialed HasFollowed Corresponds Corresponds f g p q first (λ at now is. rw is.0 (more at is.1))

  both : (b : Bool) (p q r t : Action History) → SimulatesHistory p r → SimulatesHistory q t → SimulatesHistory (cond b p q) (cond b r t)
  both b p q r t first second = simulates_if rename IsDialed HasFollowed Corresponds b p q r t first second

  ends_here : (h : History) → Dialed h → SimulatesHistory (Return h) (Return (renamed rename h))
  ends_here h dialed = (_, refl, (refl, dialed))

  noted : (fact : Fact) (h : History) → Dialed (fact ∷ h) → SimulatesHistory (note fact h) (note (renamed_fact rename fact) (renamed rename h))
  noted fact h dialed = (_, refl, tt, λ _ _. (_, refl, (refl, dialed)))

  -- ---- settling

  simulates_dropped : (chunk : ℕ) (h : History) (answer : Option (Unit {0})) → Dialed h → SimulatesHistory (dropped chunk h answer) (dropped chunk (renamed rename h) answer)
  simulates_dropped chunk h (Some ok) dialed = noted (Removed chunk) h dialed
  simulates_dropped chunk h None dialed = (_, refl, tt, λ _ _. noted (FileLeft chunk) (IoFailed ∷ h) dialed)

  simulates_drops : (chunk : ℕ) (h : History) → Dialed h → SimulatesHistory (drops s chunk h) (drops s chunk (renamed rename h))
  unfolding drops
  simulates_drops chunk h dialed = rw (kept_same rename s h chunk) (simulates_disk rename IsDialed HasFollowed Corresponds (removes (kept_of s h chunk)) _ _ (λ x. simulates_dropped chunk h x dialed))

  simulates_after_mark : (r : Route) (h : History) (answer : Option Bool) → Dialed h → SimulatesHistory (after_mark r h answer) (after_mark r (renamed rename h) answer)
  simulates_after_mark r h (Some ok) dialed = noted (Marked r) h dialed
  simulates_after_mark r h None dialed = noted IoFailed h dialed

  simulates_marks_at : (r : Route) (kept : Option Kept) (place : Option ℕ) (h : History) → Dialed h → SimulatesHistory (marks_at s r kept place h) (marks_at s r kept place (renamed rename h))
  simulates_marks_at r kept None h dialed = ends_here h dialed
  simulates_marks_at r kept (Some place) h dialed =
      (_, refl, tt, λ _ _. simulates_disk rename IsDialed HasFollowed Corresponds (settle_for_program kept (output_name s r.output) s.service.full) _ _ (λ x. simulates_after_mark r (MarkStarted r ∷ h) x dialed))

  simulates_marks_or_removes : (r : Route) (h : History) → Dialed h → SimulatesHistory (marks_or_removes s r h) (marks_or_removes s r (renamed rename h))
  unfolding marks_or_removes records
  simulates_marks_or_removes r h dialed =
      rw (owes_same rename s h r.chunk)
      (rw (kept_same rename s h r.chunk)
      (both (owes s h r.chunk) _ _ _ _ (simulates_marks_at r (kept_of s h r.chunk) (mark_position (output_name s r.output) (kept_of s h r.chunk)) h dialed) (simulates_drops r.chunk h dialed)))

  -- ---- closing

  simulates_loses : (rs : List Route) (h : History) → Dialed h → SimulatesHistory (loses s rs h) (loses s rs (renamed rename h))
  simulates_loses [] h dialed = ends_here h dialed
  simulates_loses (r ∷ rs) h dialed =
      (_, refl, tt, λ _ _. then_on (marks_or_removes s r (OnRoute r Evicted ∷ h)) _ (loses s rs) _ (simulates_marks_or_removes r (OnRoute r Evicted ∷ h) (tt, dialed)) (λ at known. simulates_loses rs at known))

  simulates_closes_chunk : (chunk : ℕ) (h : History) → Dialed h → SimulatesHistory (closes_chunk s chunk h) (closes_chunk s chunk (renamed rename h))
  unfolding closes_chunk
  simulates_closes_chunk chunk h dialed =
      let now : History = ChunkClosed chunk ∷ h in (
        _,
        refl,
        tt,
        λ _ _. subst (λ (rs : List Route). SimulatesHistory (loses s (evicted_at s now chunk) now) (loses s rs (renamed rename now))) (sym (evicted_same rename s now chunk)) (simulates_loses (evicted_at s now chunk) now dialed),
      )

  simulates_closes_if_full : (chunk : ℕ) (h : History) → Dialed h → SimulatesHistory (closes_if_full s chunk h) (closes_if_full s chunk (renamed rename h))
  unfolding closes_if_full
  simulates_closes_if_full chunk h dialed =
      subst (λ (n : ℕ). SimulatesHistory (closes_if_full s chunk h) (cond (nat_le full_chunk n) (closes_chunk s chunk (renamed rename h)) (Return (renamed rename h)))) (sym (size_same rename h chunk))
      (both (nat_le full_chunk (size h chunk)) _ _ _ _ (simulates_closes_chunk chunk h dialed) (ends_here h dialed))

  simulates_closes_each : (cs : List ChunkInfo) (h : History) → Dialed h → SimulatesHistory (closes_each s cs h) (closes_each s cs (renamed rename h))
  simulates_closes_each [] h dialed = ends_here h dialed
  simulates_closes_each (c ∷ cs) h dialed = then_on (closes_chunk s c.number h) _ (closes_each s cs) _ (simulates_closes_chunk c.number h dialed) (λ at known. simulates_closes_each cs at known)

  simulates_closes_all : (h : History) → Dialed h → SimulatesHistory (closes_all s h) (closes_all s (renamed rename h))
  unfolding closes_all
  simulates_closes_all h dialed = subst (λ (cs : List ChunkInfo). SimulatesHistory (closes_each s (open_chunks h) h) (closes_each s cs (renamed rename h))) (sym (open_same rename h)) (simulates_closes_each (open_chunks h) h dialed)

  -- ---- acceptance

  abbrev AcceptanceCorresponds : Acceptance → Acceptance → Type 0
  AcceptanceCorresponds a b = (b.history ≡ renamed rename a.history) × (b.taken ≡ a.taken) × Dialed a.history

  abbrev SimulatesAcceptance : Action Acceptance → Action Acceptance → Type 0
  SimulatesAcceptance p q = Simulates rename IsDialed HasFollowed AcceptanceCorresponds p q

  then_takes : (p q : Action History) (f g : History → Action Acceptance) → SimulatesHistory p q → ((at : History) → Dialed at → SimulatesAcceptance (f at) (g (renamed rename at))) → SimulatesAcceptance (bind p f) (bind q g)
  then_takes p q f g first more = simulates_bind rename IsDialed HasFollowed Corresponds AcceptanceCorresponds f g p q first (λ at now is. rw is.0 (more at is.1))

  simulates_taken : (h : History) → Dialed h → SimulatesAcceptance (taken h) (taken (renamed rename h))
  simulates_taken h dialed = (_, refl, (refl, refl, dialed))

  simulates_ends_refused : (h : History) → Dialed h → SimulatesAcceptance (ends_refused h) (ends_refused (renamed rename h))
  simulates_ends_refused h dialed = (_, refl, (refl, refl, dialed))

  simulates_refuses : (b : Batch) (why : Reason) (h : History) → Dialed h → SimulatesAcceptance (refuses b why h) (refuses b why (renamed rename h))
  simulates_refuses b why h dialed = (_, refl, tt, λ _ _. (_, refl, (refl, refl, dialed)))

  simulates_finishes_append : (b : Batch) (chunk : ℕ) (h : History) (answer : Option (Unit {0})) → Dialed h → SimulatesAcceptance (finishes_append s b chunk h answer) (finishes_append s b chunk (renamed rename h) answer)
  simulates_finishes_append b chunk h (Some ok) dialed =
      (_, refl, tt, λ _ _. then_takes (closes_if_full s chunk (Accepted b (AppendedTo chunk) ∷ h)) _ taken _ (simulates_closes_if_full chunk (Accepted b (AppendedTo chunk) ∷ h) dialed) (λ at known. simulates_taken at known))
  simulates_finishes_append b chunk h None dialed =
      let now : History = Refused b NotStored ∷ IoFailed ∷ h in
      (_, refl, tt, λ _ _. (_, refl, tt, λ _ _. then_takes (closes_chunk s chunk now) _ ends_refused _ (simulates_closes_chunk chunk now dialed) (λ at known. simulates_ends_refused at known)))

  simulates_finishes_create : (b : Batch) (chunk : ℕ) (h : History) (answer : Option (Unit {0})) → Dialed h → SimulatesAcceptance (finishes_create s b chunk h answer) (finishes_create s b chunk (renamed rename h) answer)
  simulates_finishes_create b chunk h (Some ok) dialed =
      (_, refl, tt, λ _ _. then_takes (closes_if_full s chunk (Accepted b (NewChunk chunk) ∷ h)) _ taken _ (simulates_closes_if_full chunk (Accepted b (NewChunk chunk) ∷ h) dialed) (λ at known. simulates_taken at known))
  simulates_finishes_create b chunk h None dialed = (_, refl, tt, λ _ _. simulates_refuses b NotStored (IoFailed ∷ h) dialed)

  simulates_appends : (b : Batch) (chunk : ℕ) (h : History) → Dialed h → SimulatesAcceptance (appends s b chunk h) (appends s b chunk (renamed rename h))
  unfolding appends
  simulates_appends b chunk h dialed =
      rw (kept_same rename s h chunk)
      (_, refl, tt, λ _ _. simulates_disk rename IsDialed HasFollowed AcceptanceCorresponds (append_to_program (kept_of s h chunk) (encoded b.events) s.service.full) _ _ (λ x. simulates_finishes_append b chunk (Offered chunk b ∷ h) x dialed))

  simulates_starts_chunk : (b : Batch) (chunk : ℕ) (h : History) → Dialed h → SimulatesAcceptance (starts_chunk s b chunk h) (starts_chunk s b chunk (renamed rename h))
  unfolding starts_chunk
  simulates_starts_chunk b chunk h dialed = (
    _,
    refl,
    tt,
    λ _ _.
        simulates_disk rename IsDialed HasFollowed AcceptanceCorresponds (places (name_for s b.input chunk) b.tag (home_at s b.input) (encoded b.events) (names_for s b.tag)) _ _
        (λ x. simulates_finishes_create b chunk (Offered chunk b ∷ h) x dialed),
  )

  simulates_stores : (b : Batch) (c : Option ChunkInfo) (h : History) → Dialed h → SimulatesAcceptance (stores s b c h) (stores s b c (renamed rename h))
  simulates_stores b (Some c) h dialed = simulates_appends b c.number h dialed
  simulates_stores b None h dialed =
      subst (λ (n : ℕ). SimulatesAcceptance (stores s b None h) (cond (nat_lt n numbers_end) (starts_chunk s b n (renamed rename h)) (refuses b NoNumber (renamed rename h)))) (sym (next_same rename h))
      (simulates_if rename IsDialed HasFollowed AcceptanceCorresponds (nat_lt (next h) numbers_end) _ _ _ _ (simulates_starts_chunk b (next h) h dialed) (simulates_refuses b NoNumber h dialed))

  simulates_accepts : (b : Batch) (h : History) → Dialed h → SimulatesAcceptance (accepts s b h) (accepts s b (renamed rename h))
  unfolding accepts
  simulates_accepts b h dialed =
      subst
      (λ (c : Option ChunkInfo).
      SimulatesAcceptance (accepts s b h)
      (cond (is_empty b.events) (taken (renamed rename h))
      (cond (is_empty (outputs_for s b.tag)) (note_then (Accepted b NoChunk) (renamed rename h) taken) (cond (is_storable b.events) (stores s b c (renamed rename h)) (refuses b TooLarge (renamed rename h))))))
      (sym (open_chunk_same rename h b.input b.tag))
      (simulates_if rename IsDialed HasFollowed AcceptanceCorresponds (is_empty b.events) _ _ _ _ (simulates_taken h dialed)
      (simulates_if rename IsDialed HasFollowed AcceptanceCorresponds (is_empty (outputs_for s b.tag)) _ _ _ _ (_, refl, tt, λ _ _. simulates_taken (Accepted b NoChunk ∷ h) dialed)
      (simulates_if rename IsDialed HasFollowed AcceptanceCorresponds (is_storable b.events) _ _ _ _ (simulates_stores b (open_chunk h b.input b.tag) h dialed) (simulates_refuses b TooLarge h dialed))))

  simulates_ingests : (b : Batch) (h : History) → Dialed h → SimulatesHistory (ingests s b h) (ingests s b (renamed rename h))
  unfolding ingests
  simulates_ingests b h dialed = simulates_bind rename IsDialed HasFollowed AcceptanceCorresponds Corresponds _ _ (accepts s b h) _ (simulates_accepts b h dialed) (λ a b is. (_, refl, (is.0, is.2)))

  -- ---- flights

  simulates_retries : (r : Route) (h : History) → Dialed h → SimulatesHistory (retries s r h) (retries s r (renamed rename h))
  unfolding retries
  simulates_retries r h dialed =
      rw (tries_same rename h r)
      (both (may_retry (retries_at (output_at s r.output)) (tries h r)) _ _ _ _ (_, refl, tt, λ word _. noted (OnRoute r (Retries word)) h (tt, dialed)) (_, refl, tt, λ _ _. simulates_marks_or_removes r (OnRoute r Exhausted ∷ h) (tt, dialed)))

  simulates_applies_answer : (r : Route) (answer : Answer) (h : History) → Dialed h → SimulatesHistory (applies_answer s r answer h) (applies_answer s r answer (renamed rename h))
  simulates_applies_answer r Good h dialed = (_, refl, tt, λ _ _. simulates_marks_or_removes r (OnRoute r Delivered ∷ h) (tt, dialed))
  simulates_applies_answer r Retry h dialed = simulates_retries r h dialed
  simulates_applies_answer r Bad h dialed = (_, refl, tt, λ _ _. simulates_marks_or_removes r (OnRoute r Failed ∷ h) (tt, dialed))

  simulates_stands : (r : Route) (p : Progress) (h : History) → IsOnDialed rename IsDialed p.stage → Dialed h → SimulatesHistory (stands s r p h) (stands s r (renamed_progress rename p) (renamed rename h))
  unfolding stands
  simulates_stands r p h known dialed = by p.stage
    where
      by : (stage : Stage) → SimulatesHistory (notes_stage s r p stage h) (notes_stage s r (renamed_progress rename p) (renamed_stage rename stage) (renamed rename h))
      by Opening = noted (OnRoute r (InFlight p)) h (known, dialed)
      by (Writing link) = noted (OnRoute r (InFlight p)) h (known, dialed)
      by (AwaitingAck link) = noted (OnRoute r (InFlight p)) h (known, dialed)
      by (Ended answer) = simulates_applies_answer r answer h dialed

  simulates_notes_calls : (r : Route) (before : ℕ) (p q : Progress) (h : History) → IsRenamed rename IsDialed p q → Dialed h → SimulatesHistory (notes_calls s r before p h) (notes_calls s r before q (renamed rename h))
  unfolding notes_calls
  simulates_notes_calls r before p q h is dialed = rw is.0 (_, refl, tt, λ _ _. simulates_stands r p (Sent r.output _ ∷ h) is.1 dialed)

  simulates_starts_with : (r : Route) (events : List Event) (h : History) → Dialed h → SimulatesHistory (starts_with s r events h) (starts_with s r events (renamed rename h))
  unfolding starts_with
  simulates_starts_with r events h dialed =
      let now : History = OnRoute r (FlushStarted events) ∷ h in (
        _,
        refl,
        tt,
        λ _ _.
            subst (λ (d : Delivery). SimulatesHistory (bind (on_loop (starts (delivery s now r) r.output (tag_of_chunk now r.chunk) not_started)) (λ progress. notes_calls s r 0 progress now)) (bind (on_loop (starts d r.output (tag_of_chunk (renamed rename now) r.chunk) not_started)) (λ progress. notes_calls s r 0 progress (renamed rename now))))
            (sym (delivery_same rename s now r))
            (subst (λ (tag : List ℕ). SimulatesHistory (bind (on_loop (starts (delivery s now r) r.output (tag_of_chunk now r.chunk) not_started)) (λ progress. notes_calls s r 0 progress now)) (bind (on_loop (starts (delivery s now r) r.output tag not_started)) (λ progress. notes_calls s r 0 progress (renamed rename now))))
            (sym (tag_of_chunk_same rename s now r.chunk))
            (simulates_bind rename IsDialed HasFollowed (IsRenamed rename IsDialed) Corresponds _ _ (on_loop (starts (delivery s now r) r.output (tag_of_chunk now r.chunk) not_started)) _ (simulates_starts rename IsDialed HasFollowed (delivery s now r) r.output (tag_of_chunk now r.chunk))
            (λ p q is. simulates_notes_calls r 0 p q now is (tt, dialed)))),
      )

  simulates_after_read : (r : Route) (kept : ℕ) (h : History) (read : Option (List ℕ)) → Dialed h → SimulatesHistory (after_read s r kept h read) (after_read s r kept (renamed rename h) read)
  simulates_after_read r kept h None dialed = noted IoFailed h dialed
  simulates_after_read r kept h (Some bytes) dialed = both (is_complete_read kept bytes) _ _ _ _ (simulates_starts_with r (events_in bytes).0 h dialed) (ends_here h dialed)

  simulates_begins_as : (r : Route) (kept : Option Kept) (h : History) → Dialed h → SimulatesHistory (begins_as s r kept h) (begins_as s r kept (renamed rename h))
  simulates_begins_as r None h dialed = ends_here h dialed
  simulates_begins_as r (Some (InMemory bytes)) h dialed =
      subst (λ (events : List Event). SimulatesHistory (starts_with s r (records_of h r.chunk) h) (starts_with s r events (renamed rename h))) (sym (records_same rename h r.chunk)) (simulates_starts_with r (records_of h r.chunk) h dialed)
  simulates_begins_as r (Some (InFile head)) h dialed = simulates_disk rename IsDialed HasFollowed Corresponds (read_content_program (InFile head)) _ _ (λ x. simulates_after_read r (size_of (InFile head)) h x dialed)
  simulates_begins_as r (Some (Adopted head)) h dialed = simulates_disk rename IsDialed HasFollowed Corresponds (read_content_program (Adopted head)) _ _ (λ x. simulates_after_read r (size_of (Adopted head)) h x dialed)

  simulates_starts_flush : (r : Route) (h : History) → Dialed h → SimulatesHistory (starts_flush s r h) (starts_flush s r (renamed rename h))
  unfolding starts_flush
  simulates_starts_flush r h dialed = subst (λ (kept : Option Kept). SimulatesHistory (begins_as s r (kept_of s h r.chunk) h) (begins_as s r kept (renamed rename h))) (sym (kept_same rename s h r.chunk)) (simulates_begins_as r (kept_of s h r.chunk) h dialed)

  simulates_starts_if_allowed : (r : Route) (h : History) → Dialed h → SimulatesHistory (starts_if_allowed s r h) (starts_if_allowed s r (renamed rename h))
  unfolding starts_if_allowed
  simulates_starts_if_allowed r h dialed =
      subst (λ (b : Bool). SimulatesHistory (starts_if_allowed s r h) (cond b (starts_flush s r (renamed rename h)) (Return (renamed rename h)))) (sym (start_same rename s h r)) (both (may_start s h r) _ _ _ _ (simulates_starts_flush r h dialed) (ends_here h dialed))

  simulates_starts_each : (rs : List Route) (h : History) → Dialed h → SimulatesHistory (starts_each s rs h) (starts_each s rs (renamed rename h))
  simulates_starts_each [] h dialed = ends_here h dialed
  simulates_starts_each (r ∷ rs) h dialed = then_on (starts_if_allowed s r h) _ (starts_each s rs) _ (simulates_starts_if_allowed r h dialed) (λ at known. simulates_starts_each rs at known)

  simulates_walk : (h : History) → Dialed h → SimulatesHistory (walk s h) (walk s (renamed rename h))
  unfolding walk
  simulates_walk h dialed = subst (λ (rs : List Route). SimulatesHistory (starts_each s (due_routes s h) h) (starts_each s rs (renamed rename h))) (sym (due_routes_same rename s h)) (simulates_starts_each (due_routes s h) h dialed)

  module _ (go : Delivery → Progress → Action Progress) (named_go : (d : Delivery) (p : Progress) → IsOnDialed rename IsDialed p.stage → Simulates rename IsDialed HasFollowed (IsRenamed rename IsDialed) (go d p) (go d (renamed_progress rename p))) where
    simulates_flush : (r : Route) (at : Option Progress) (h : History) → ((p : Progress) → at ≡ Some p → IsOnDialed rename IsDialed p.stage) → Dialed h → SimulatesHistory (goes_on s go r at h) (goes_on s go r (renamed_flight rename at) (renamed rename h))
    simulates_flush r None h known dialed = ends_here h dialed
    simulates_flush r (Some p) h known dialed =
        subst (λ (d : Delivery). SimulatesHistory (goes_on s go r (Some p) h) (bind (go d (renamed_progress rename p)) (λ now. notes_calls s r p.taken now (renamed rename h)))) (sym (delivery_same rename s h r))
        (simulates_bind rename IsDialed HasFollowed (IsRenamed rename IsDialed) Corresponds _ _ (go (delivery s h r) p) _ (named_go (delivery s h r) p (known p refl)) (λ now later is. simulates_notes_calls r p.taken now later h is dialed))

    simulates_resumes : (at : Option Route) (h : History) → Dialed h → SimulatesHistory (resumes s go at h) (resumes s go at (renamed rename h))
    simulates_resumes None h dialed = ends_here h dialed
    simulates_resumes (Some r) h dialed =
        subst (λ (p : Option Progress). SimulatesHistory (goes_on s go r (flight h r) h) (goes_on s go r p (renamed rename h))) (sym (flight_same rename h r)) (simulates_flush r (flight h r) h (dialed_flight rename IsDialed apart h r dialed) dialed)

  simulates_at_room : (link : ℕ) (h : History) → Dialed h → SimulatesHistory (at_room s link h) (at_room s (rename link) (renamed rename h))
  unfolding at_room
  simulates_at_room link h dialed =
      rw (route_on_link_same rename IsDialed apart h link dialed) (simulates_resumes (λ d p. on_loop (polls d p)) (λ d p known. simulates_polls rename IsDialed HasFollowed d p known) (route_on_link h link) h dialed)

  simulates_at_reply : (link : ℕ) (bytes : List ℕ) (h : History) → Dialed h → SimulatesHistory (at_reply s link bytes h) (at_reply s (rename link) bytes (renamed rename h))
  unfolding at_reply
  simulates_at_reply link bytes h dialed =
      rw (route_on_link_same rename IsDialed apart h link dialed) (simulates_resumes (λ d p. on_loop (backs d bytes p)) (λ d p known. simulates_backs rename IsDialed HasFollowed d bytes p known) (route_on_link h link) h dialed)

  simulates_at_break : (link : ℕ) (h : History) → Dialed h → SimulatesHistory (at_break s link h) (at_break s (rename link) (renamed rename h))
  unfolding at_break
  simulates_at_break link h dialed =
      rw (route_on_link_same rename IsDialed apart h link dialed) (simulates_resumes (λ d p. on_loop (breaks p)) (λ d p known. simulates_breaks rename IsDialed HasFollowed p known) (route_on_link h link) h dialed)

  -- ---- what comes

  simulates_hangs_up : (conn : ℕ) (h : History) → Dialed h → SimulatesHistory (hangs_up conn h) (hangs_up conn (renamed rename h))
  unfolding hangs_up
  simulates_hangs_up conn h dialed = (_, refl, tt, λ _ _. noted (Disconnected conn) h dialed)

  module _ (on : History → Action History) (simulates_next : (at : History) → Dialed at → SimulatesHistory (on at) (on (renamed rename at))) where
    simulates_after_reply : (conn : ℕ) (h : History) (answer : Option (Unit {0})) → Dialed h → SimulatesHistory (after_reply conn on h answer) (after_reply conn on (renamed rename h) answer)
    simulates_after_reply conn h (Some ok) dialed = simulates_next h dialed
    simulates_after_reply conn h None dialed = simulates_hangs_up conn h dialed

    simulates_replies : (conn : ℕ) (asked : Option (List ℕ)) (h : History) → Dialed h → SimulatesHistory (replies conn asked on h) (replies conn asked on (renamed rename h))
    simulates_replies conn None h dialed = simulates_next h dialed
    simulates_replies conn (Some bytes) h dialed = (_, refl, tt, λ x _. simulates_after_reply conn h x dialed)

    simulates_acknowledges : (conn : ℕ) (asked : Option (List ℕ)) (a b : Acceptance) → AcceptanceCorresponds a b → SimulatesHistory (acknowledges conn asked on a) (acknowledges conn asked on b)
    simulates_acknowledges conn asked a b is = rw is.0 (rw is.1 (both a.taken _ _ _ _ (simulates_replies conn asked a.history is.2) (simulates_hangs_up conn a.history is.2)))

  simulates_accepts_messages : (input conn : ℕ) (breaks : Bool) (ms : List MessageContent) (h : History) → Dialed h → SimulatesHistory (accepts_messages s input conn breaks ms h) (accepts_messages s input conn breaks ms (renamed rename h))
  simulates_accepts_messages input conn false [] h dialed = ends_here h dialed
  simulates_accepts_messages input conn true [] h dialed = (_, refl, tt, λ _ _. simulates_hangs_up conn (Malformed input ∷ h) dialed)
  simulates_accepts_messages input conn breaks (m ∷ ms) h dialed =
      simulates_bind rename IsDialed HasFollowed AcceptanceCorresponds Corresponds _ _ (accepts s (message_batch s input m) h) _ (simulates_accepts (message_batch s input m) h dialed)
      (λ a b is. simulates_acknowledges (accepts_messages s input conn breaks ms) (λ at known. simulates_accepts_messages input conn breaks ms at known) conn (reply_of m) a b is)

  simulates_accepts_stream : (before : History) (input : ℕ) (bytes : List ℕ) (stream : Option Stream) (h : History) → Dialed h → SimulatesHistory (accepts_stream s before input bytes stream h) (accepts_stream s (renamed rename before) input bytes stream (renamed rename h))
  simulates_accepts_stream before input bytes None h dialed = ends_here h dialed
  simulates_accepts_stream before input bytes (Some (LineStream conn)) h dialed =
      subst (λ (b : Batch). SimulatesHistory (ingests s (piece_batch s before input (LineStream conn) bytes) h) (ingests s b (renamed rename h))) (sym (piece_same rename s before input (LineStream conn) bytes)) (simulates_ingests (piece_batch s before input (LineStream conn) bytes) h dialed)
  simulates_accepts_stream before input bytes (Some (MessageStream conn)) h dialed =
      let was = said s before (MessageStream conn) in
      subst (λ (l : List ℕ). SimulatesHistory (accepts_messages s input conn (becomes_malformed was bytes) (completed_messages was bytes) h) (accepts_messages s input conn (becomes_malformed l bytes) (completed_messages l bytes) (renamed rename h))) (sym (said_same rename s before (MessageStream conn)))
      (simulates_accepts_messages input conn (becomes_malformed was bytes) (completed_messages was bytes) h dialed)
  simulates_accepts_stream before input bytes (Some (Standard reader)) h dialed =
      subst (λ (b : Batch). SimulatesHistory (ingests s (piece_batch s before input (Standard reader) bytes) h) (ingests s b (renamed rename h))) (sym (piece_same rename s before input (Standard reader) bytes)) (simulates_ingests (piece_batch s before input (Standard reader) bytes) h dialed)

  simulates_pieces : (before : History) (input conn : ℕ) (bytes : List ℕ) (h : History) → Dialed h → SimulatesHistory (pieces s before input conn bytes h) (pieces s (renamed rename before) input conn bytes (renamed rename h))
  unfolding pieces
  simulates_pieces before input conn bytes h dialed =
      subst (λ (stream : Option Stream). SimulatesHistory (accepts_stream s before input bytes (stream_of s before input conn) h) (accepts_stream s (renamed rename before) input bytes stream (renamed rename h))) (sym (stream_same rename s before input conn))
      (simulates_accepts_stream before input bytes (stream_of s before input conn) h dialed)

  simulates_polled : (input index : ℕ) (h : History) (poll : Option Poll) → Dialed h → SimulatesHistory (polled s input index h poll) (polled s input index (renamed rename h) poll)
  simulates_polled input index h None dialed = noted IoFailed h dialed
  simulates_polled input index h (Some poll) dialed =
      let now : History = Polled input index poll.long poll.bytes ∷ h in
      (_, refl, tt, λ _ _. subst (λ (b : Batch). SimulatesHistory (ingests s (poll_batch s h input index poll) now) (ingests s b (renamed rename now))) (sym (poll_same rename s h input index poll)) (simulates_ingests (poll_batch s h input index poll) now dialed))

  simulates_polls_file : (followed : HasFollowed) (input index : ℕ) (path : List ℕ) (h : History) → Dialed h → SimulatesHistory (polls_file s input index path h) (polls_file s input index path (renamed rename h))
  unfolding polls_file
  simulates_polls_file followed input index path h dialed =
      subst (λ (file : Followed). SimulatesHistory (polls_file s input index path h) (bind (on_files (polls_of path (from_head_at s input) file.place)) (polled s input index (renamed rename h)))) (sym (file_same rename s h input index))
      (simulates_files rename IsDialed HasFollowed Corresponds followed (polls_of path (from_head_at s input) (file_at s h input index).place) _ _ (λ x. simulates_polled input index h x dialed))

  simulates_polls_files : (input index : ℕ) (paths : List (List ℕ)) (h : History) → (paths ≡ []) ⊎ HasFollowed → Dialed h → SimulatesHistory (polls_files s input index paths h) (polls_files s input index paths (renamed rename h))
  simulates_polls_files input index [] h either dialed = ends_here h dialed
  simulates_polls_files input index (path ∷ paths) h (inl none) dialed = absurd (cc none)
  simulates_polls_files input index (path ∷ paths) h (inr followed) dialed =
      then_on (polls_file s input index path h) _ (polls_files s input (index + 1) paths) _ (simulates_polls_file followed input index path h dialed) (λ at known. simulates_polls_files input (index + 1) paths at (inr followed) known)

  simulates_polls_input : (input : ℕ) (h : History) → Dialed h → SimulatesHistory (polls_input s input h) (polls_input s input (renamed rename h))
  unfolding polls_input
  simulates_polls_input input h dialed =
      subst (λ (b : Bool). SimulatesHistory (polls_input s input h) (cond b (Return (renamed rename h)) (polls_files s input 0 (paths_at s input) (renamed rename h)))) (sym (is_paused_same rename s h input))
      (both (is_paused s h input) _ _ _ _ (ends_here h dialed) (simulates_polls_files input 0 (paths_at s input) h (tails input) dialed))

  simulates_polls_inputs : (inputs : List ℕ) (h : History) → Dialed h → SimulatesHistory (polls_inputs s inputs h) (polls_inputs s inputs (renamed rename h))
  simulates_polls_inputs [] h dialed = ends_here h dialed
  simulates_polls_inputs (input ∷ inputs) h dialed = then_on (polls_input s input h) _ (polls_inputs s inputs) _ (simulates_polls_input input h dialed) (λ at known. simulates_polls_inputs inputs at known)

  -- ---- steps

  simulates_closes_and_dispatches : (closing : Bool) (h : History) → Dialed h → SimulatesHistory (closes_and_dispatches s closing h) (closes_and_dispatches s closing (renamed rename h))
  unfolding closes_and_dispatches
  simulates_closes_and_dispatches closing h dialed = both closing _ _ _ _ (then_on (closes_all s h) _ (walk s) _ (simulates_closes_all h dialed) (λ at known. simulates_walk at known)) (simulates_walk h dialed)

  simulates_ticks : (closing : Bool) (h : History) → Dialed h → SimulatesHistory (ticks s closing h) (ticks s closing (renamed rename h))
  unfolding ticks polls_all
  simulates_ticks closing h dialed =
      then_on (polls_inputs s (range_with_len 0 (length s.inputs)) h) _ (closes_and_dispatches s closing) _ (simulates_polls_inputs (range_with_len 0 (length s.inputs)) h dialed) (λ at known. simulates_closes_and_dispatches closing at known)

  simulates_stops : (before : Option ℕ) (h : History) → Dialed h → SimulatesHistory (stops s before h) (stops s before (renamed rename h))
  unfolding stops
  simulates_stops before h dialed = both (is_some before) _ _ _ _ (ends_here h dialed) (simulates_closes_and_dispatches true h dialed)

  simulates_at_input_end : (before : History) (input : ℕ) (h : History) → Dialed h → SimulatesHistory (at_input_end s before input h) (at_input_end s (renamed rename before) input (renamed rename h))
  unfolding at_input_end
  simulates_at_input_end before input h dialed =
      subst (λ (b : Batch). SimulatesHistory (at_input_end s before input h) (cond (reads_stdin_at s input) (bind (ingests s b (renamed rename h)) (stops s (stopped s (renamed rename before)))) (Return (renamed rename h)))) (sym (end_batch_same rename s before input (Standard input)))
      (subst (λ (at : Option ℕ). SimulatesHistory (at_input_end s before input h) (cond (reads_stdin_at s input) (bind (ingests s (end_batch s before input (Standard input)) (renamed rename h)) (stops s at)) (Return (renamed rename h)))) (sym (stopped_same rename s before))
      (both (reads_stdin_at s input) _ _ _ _
      (then_on (ingests s (end_batch s before input (Standard input)) h) _ (stops s (stopped s before)) _ (simulates_ingests (end_batch s before input (Standard input)) h dialed) (λ at known. simulates_stops (stopped s before) at known)) (ends_here h dialed)))

  simulates_handles : (before : History) (x : Happening) (h : History) → Dialed h → SimulatesHistory (handles s before x h) (handles s (renamed rename before) (renamed_event rename x) (renamed rename h))
  simulates_handles before (happening.Tick now) h dialed =
      subst (λ (b : Bool). SimulatesHistory (ticks s (is_close_due s before now) h) (ticks s b (renamed rename h))) (sym (close_due_same rename s before now)) (simulates_ticks (is_close_due s before now) h dialed)
  simulates_handles before (happening.Joined input conn) h dialed = ends_here h dialed
  simulates_handles before (happening.Piece input conn bytes) h dialed = simulates_pieces before input.0 conn.0 bytes h dialed
  simulates_handles before (happening.Gone input conn) h dialed = ends_here h dialed
  simulates_handles before (happening.Room link) h dialed = simulates_at_room link.0 h dialed
  simulates_handles before (happening.Back link bytes) h dialed = simulates_at_reply link.0 bytes h dialed
  simulates_handles before (happening.Broken link) h dialed = simulates_at_break link.0 h dialed
  simulates_handles before (happening.InputEnd input) h dialed = simulates_at_input_end before input.0 h dialed
  simulates_handles before happening.Stop h dialed = subst (λ (at : Option ℕ). SimulatesHistory (stops s (stopped s before) h) (stops s at (renamed rename h))) (sym (stopped_same rename s before)) (simulates_stops (stopped s before) h dialed)
  simulates_handles before happening.End h dialed = ends_here h dialed
  simulates_handles before happening.Failed h dialed = ends_here h dialed

  pub simulates_step : (x : Happening) (h : History) → Dialed h → SimulatesHistory (step s x h) (step s (renamed_event rename x) (renamed rename h))
  unfolding step
  simulates_step x h dialed = (_, refl, tt, λ _ _. simulates_handles h x (Happened x ∷ h) dialed)
