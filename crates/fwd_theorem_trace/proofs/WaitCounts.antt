-- Which calls are waits.
use Rattle.std.proofs.Common.{◌≡◌, ◌⊎◌, inl, inr, ℕ, ◌+◌, Bool, true, false, cond, List, [], ◌∷◌, ◌++◌, length, nat_lt, Option, Some, None, refl, sym, ap, subst, arith}
use Rattle.std.specs.Prelude.{nat_le, is_some}
use Rattle.std.specs.List.{range_with_len}
use Rattle.fwd_base.specs.Limits.{full_chunk, numbers_end}
use Rattle.fwd_event.specs.declared.event.Event.{Event}
use Rattle.fwd_event.specs.EventPrefix.{events_in}
use Rattle.fwd_outside.specs.Program.{Return, Ask, bind, Execution}
use Rattle.fwd_outside.specs.Loop.{LoopProgram, Wait, Push, Close, Word}
use Rattle.fwd_outside.specs.Disk.{DiskProgram}
use Rattle.fwd_outside.specs.Files.{FilesAnswer, FilesProgram, Changed, FailAt}
use Rattle.fwd_outside.specs.declared.happening.Happening.{Happening}
use Rattle.fwd_outside.specs.declared.happening.Happening.TheVariants as happening
use Rattle.fwd_backlog.specs.declared.file_read.FileRead.{FileRead}
use Rattle.fwd_backlog.specs.LoadProgram.{load_program}
use Rattle.fwd_table.specs.Outcomes.{may_retry}
use Rattle.fwd_table.specs.declared.outcome.Answer.{Answer as Answered}
use Rattle.fwd_table.specs.declared.outcome.Answer.TheVariants.{Good, Retry, Bad}
use Rattle.fwd_chunk.specs.declared.kept.Kept.{Kept}
use Rattle.fwd_chunk.specs.declared.kept.Kept.TheVariants.{InFile, Adopted, InMemory}
use Rattle.fwd_chunk.specs.Kept.{size_of}
use Rattle.fwd_chunk.specs.Content.{read_content_program}
use Rattle.fwd_store.specs.Store.{drops as removes, settle_for_program, append_to_program, begins_as as places}
use Rattle.fwd_flush.specs.declared.stage.Stage.{Stage}
use Rattle.fwd_flush.specs.declared.stage.Stage.TheVariants.{Opening, Writing, AwaitingAck, Ended}
use Rattle.fwd_flush.specs.FlushProgram.{Progress, Delivery, dialed_on, not_started, starts, polls, backs, breaks}
use Rattle.fwd_in_tail.specs.Followed.{Polled as Poll, polls as polls_of, reads_on}
use Rattle.fwd_wire.specs.Message.{MessageContent}
use Rattle.fwd_settings.specs.declared.settings_types.AllSettings.{AllSettings}
use Rattle.fwd_model.specs.Fact.{History, Route, FlushStarted, Stream, LineStream, MessageStream, Standard, Batch, NoChunk, TooLarge, NoNumber, Retries, OnRoute, Exhausted, Accepted, Happened, ChunkClosed}
use Rattle.fwd_model.specs.Trace.{Answer, Action, TraceEntry, OnLoop, Call, OnFiles, OnKeeper}
use Rattle.fwd_model.specs.DeviceActions.{on_loop, on_disk, on_files}
use Rattle.fwd_model.specs.Settings.{outputs_for, output_at, output_name, retries_at, home_at, names_for, paths_at, from_head_at, reads_stdin_at}
use Rattle.fwd_model.specs.Clock.{stopped, is_close_due}
use Rattle.fwd_model.specs.Streams.{stream_of, said}
use Rattle.fwd_model.specs.FollowedFiles.{file_at, settled}
use Rattle.fwd_model.specs.Batches.{piece_batch, end_batch, poll_batch}
use Rattle.fwd_model.specs.Messages.{completed_messages, becomes_malformed, message_batch, reply_of}
use Rattle.fwd_model.specs.Chunks.{ChunkInfo, open_chunks, open_chunk, next, size, encoded, is_storable, records as records_of}
use Rattle.fwd_model.specs.ChunkStorage.{kept_of, mark_position, name_for}
use Rattle.fwd_model.specs.Routes.{owes, tries, flight, route_on_link}
use Rattle.fwd_model.specs.Payloads.{delivery}
use Rattle.fwd_model.specs.Limits.{evicted_at, is_paused}
use Rattle.fwd_model.specs.Dispatch.{due_routes, may_start}
use Rattle.fwd_model.specs.Notes.{note_then, note, is_empty}
use Rattle.fwd_model.specs.ResolveActions.{dropped, drops, after_mark, marks_at, records, marks_or_removes}
use Rattle.fwd_model.specs.CloseActions.{loses, closes_chunk, closes_if_full, closes_each, closes_all}
use Rattle.fwd_model.specs.Acceptance.{Acceptance, taken, ends_refused, refuses, finishes_append, finishes_create, appends, starts_chunk, stores, accepts, ingests}
use Rattle.fwd_model.specs.FlushActions.{retries, applies_answer, notes_stage, stands, notes_calls, starts_with, is_complete_read, after_read, begins_as, starts_flush, starts_if_allowed, starts_each, walk, goes_on, resumes, at_room, at_reply, at_break}
use Rattle.fwd_model.specs.InputActions.{hangs_up, after_reply, replies, acknowledges, accepts_messages, accepts_stream, pieces, polled, polls_file, polls_files, polls_input, polls_inputs, polls_all}
use Rattle.fwd_model.specs.StepActions.{closes_and_dispatches, ticks, stops, at_input_end, handles, step}
use Rattle.fwd_model.specs.RecoveryActions.{notes_files, loaded, loads_from, recovers}
use Rattle.fwd_model.specs.KeptOffsets.{Tracked, tracked, kept_at, to_put, after_put, puts_by, puts}
use Rattle.fwd_model.specs.Run.{RunResult, Over, lived, is_over, goes_on as run_goes_on, steps_on, is_last_tick, unless_last, after_step, brought, run}
use Rattle.fwd_theorem_trace.specs.Waits.{is_wait, waits_in, WaitsFirst}
use Rattle.fwd_theorem_trace.proofs.Actions.{OnLinks, links_dialed_on, links_polls, links_backs, links_breaks}

pub waits_append : (a b : List TraceEntry) → waits_in (a ++ b) ≡ waits_in a + waits_in b
waits_append [] b = omega arith
waits_append (e ∷ a) b = by (is_wait e.call) (waits_append a b)
  where
    by : (yes : Bool) → waits_in (a ++ b) ≡ waits_in a + waits_in b → cond yes (waits_in (a ++ b) + 1) (waits_in (a ++ b)) ≡ cond yes (waits_in a + 1) (waits_in a) + waits_in b
    by true more = omega (arith, more)
    by false more = more

-- a call that isn't a wait, isn't on a keeper, and makes no change of files
abbrev pub is_plain : Call → Bool
is_plain (OnLoop (Wait until paused)) = false
is_plain (OnFiles (Changed path bytes)) = false
is_plain (OnFiles (FailAt number)) = false
is_plain (OnKeeper call) = false
is_plain call = true

abbrev pub ArePlain : List TraceEntry → Type 0
ArePlain [] = Unit {0}
ArePlain (e ∷ es) = (is_plain e.call ≡ true) × ArePlain es

plain_is_no_wait : (call : Call) → is_plain call ≡ true → is_wait call ≡ false
plain_is_no_wait (OnLoop (Wait until paused)) plain = absurd (cc plain)
plain_is_no_wait (OnKeeper call) plain = absurd (cc plain)
plain_is_no_wait call plain = refl

pub plain_waitless : (es : List TraceEntry) → ArePlain es → waits_in es ≡ 0
plain_waitless [] plain = refl
plain_waitless (e ∷ es) plain = rw (plain_is_no_wait e.call plain.0) (plain_waitless es plain.1)

-- for all answers, the action never waits, asks no keeper, and changes no files
abbrev IsWaitless : {R : Type 0} → Action R → Type 0
IsWaitless (Return x) = Unit {0}
IsWaitless (Ask call go) = (is_plain call ≡ true) × ((answer : Answer call) → IsWaitless (go answer))

plain_way : {R : Type 0} (p : Action R) (entries : List TraceEntry) (left : Action R) → IsWaitless p → Execution p entries left → ArePlain entries
plain_way p [] left waitless way = tt
plain_way (Return x) (e ∷ es) left waitless way = absurd way
plain_way (Ask call go) (e ∷ es) left waitless way =
    subst (λ (x : TraceEntry). ArePlain (x ∷ es)) (sym way.1) (waitless.0, plain_way (go way.0) es left (waitless.1 way.0) way.2)

waitless_way : {R : Type 0} (p : Action R) (entries : List TraceEntry) (left : Action R) → IsWaitless p → Execution p entries left → waits_in entries ≡ 0
waitless_way p entries left waitless way = plain_waitless entries (plain_way p entries left waitless way)

waitless_bind : {R S : Type 0} (p : Action R) (next : R → Action S) → IsWaitless p → ((x : R) → IsWaitless (next x)) → IsWaitless (bind p next)
waitless_bind (Return x) next first more = more x
waitless_bind (Ask call go) next first more = (first.0, λ answer. waitless_bind (go answer) next (first.1 answer) more)

waitless_if : {R : Type 0} (b : Bool) (p q : Action R) → IsWaitless p → IsWaitless q → IsWaitless (cond b p q)
waitless_if true p q first second = first
waitless_if false p q first second = second

-- for all answers, the action never waits
abbrev NeverWaits : {R : Type 0} → Action R → Type 0
NeverWaits (Return x) = Unit {0}
NeverWaits (Ask call go) = (is_wait call ≡ false) × ((answer : Answer call) → NeverWaits (go answer))

waitless_never : {R : Type 0} (p : Action R) → IsWaitless p → NeverWaits p
waitless_never (Return x) plain = tt
waitless_never (Ask call go) plain = (plain_is_no_wait call plain.0, λ answer. waitless_never (go answer) (plain.1 answer))

never_way : {R : Type 0} (p : Action R) (entries : List TraceEntry) (left : Action R) → NeverWaits p → Execution p entries left → waits_in entries ≡ 0
never_way p [] left never way = refl
never_way (Return x) (e ∷ es) left never way = absurd way
never_way (Ask call go) (e ∷ es) left never way =
    subst (λ (x : TraceEntry). waits_in (x ∷ es) ≡ 0) (sym way.1) (rw (never.0) (never_way (go way.0) es left (never.1 way.0) way.2))

never_bind : {R S : Type 0} (p : Action R) (next : R → Action S) → NeverWaits p → ((x : R) → NeverWaits (next x)) → NeverWaits (bind p next)
never_bind (Return x) next first more = more x
never_bind (Ask call go) next first more = (first.0, λ answer. never_bind (go answer) next (first.1 answer) more)

never_if : {R : Type 0} (b : Bool) (p q : Action R) → NeverWaits p → NeverWaits q → NeverWaits (cond b p q)
never_if true p q first second = first
never_if false p q first second = second

waitless_disk : {R S : Type 0} (p : DiskProgram R) (next : R → Action S) → ((x : R) → IsWaitless (next x)) → IsWaitless (bind (on_disk p) next)
waitless_disk (Return x) next more = more x
waitless_disk (Ask call go) next more = (refl, λ answer. waitless_disk (go answer) next more)

-- for all answers, the program only reads
abbrev OnlyReads : {R : Type 0} → FilesProgram R → Type 0
OnlyReads (Return x) = Unit {0}
OnlyReads (Ask call go) = (is_plain (OnFiles call) ≡ true) × ((answer : FilesAnswer call) → OnlyReads (go answer))

polls_read : (path : List ℕ) (from_head : Bool) (place : Option ℕ) → OnlyReads (polls_of path from_head place)
polls_read path from_head place = (refl, behind)
  where
    behind : (long : Option ℕ) → OnlyReads (reads_on path from_head place long)
    behind None = tt
    behind (Some long) = (refl, λ _. tt)

waitless_files : {R S : Type 0} (p : FilesProgram R) (next : R → Action S) → OnlyReads p → ((x : R) → IsWaitless (next x)) → IsWaitless (bind (on_files p) next)
waitless_files (Return x) next accepts_messages more = more x
waitless_files (Ask call go) next accepts_messages more = (accepts_messages.0, λ answer. waitless_files (go answer) next (accepts_messages.1 answer) more)

waitless_links : {R S : Type 0} (p : LoopProgram R) (next : R → Action S) → OnLinks p → ((x : R) → IsWaitless (next x)) → IsWaitless (bind (on_loop p) next)
waitless_links (Return x) next links more = more x
waitless_links (Ask (Push link bytes) go) next links more = (refl, λ answer. waitless_links (go answer) next (links.1 answer) more)
waitless_links (Ask (Close link) go) next links more = (refl, λ answer. waitless_links (go answer) next (links.1 answer) more)
waitless_links (Ask call go) next links more = absurd links.0

module _ (s : AllSettings) where
  -- ---- resolving

  no_wait_dropped : (chunk : ℕ) (h : History) (answer : Option (Unit {0})) → IsWaitless (dropped chunk h answer)
  no_wait_dropped chunk h (Some done) = (refl, λ _. tt)
  no_wait_dropped chunk h None = (refl, λ _. (refl, λ _. tt))

  no_wait_drops : (chunk : ℕ) (h : History) → IsWaitless (drops s chunk h)
  unfolding drops
  no_wait_drops chunk h = waitless_disk (removes (kept_of s h chunk)) (dropped chunk h) (no_wait_dropped chunk h)

  no_wait_recorded : (r : Route) (h : History) (answer : Option Bool) → IsWaitless (after_mark r h answer)
  no_wait_recorded r h (Some done) = (refl, λ _. tt)
  no_wait_recorded r h None = (refl, λ _. tt)

  no_wait_records_at : (r : Route) (kept : Option Kept) (place : Option ℕ) (h : History) → IsWaitless (marks_at s r kept place h)
  no_wait_records_at r kept None h = tt
  no_wait_records_at r kept (Some place) h = (refl, λ _. waitless_disk (settle_for_program kept (output_name s r.output) s.service.full) _ (no_wait_recorded r _))

  no_wait_settles : (r : Route) (h : History) → IsWaitless (marks_or_removes s r h)
  unfolding marks_or_removes records
  no_wait_settles r h =
      waitless_if (owes s h r.chunk) (records s r h) (drops s r.chunk h) (no_wait_records_at r (kept_of s h r.chunk) (mark_position (output_name s r.output) (kept_of s h r.chunk)) h) (no_wait_drops r.chunk h)

  -- ---- closing

  no_wait_loses : (rs : List Route) (h : History) → IsWaitless (loses s rs h)
  no_wait_loses [] h = tt
  no_wait_loses (r ∷ rs) h = (refl, λ _. waitless_bind (marks_or_removes s r _) (loses s rs) (no_wait_settles r _) (no_wait_loses rs))

  no_wait_shuts : (chunk : ℕ) (h : History) → IsWaitless (closes_chunk s chunk h)
  unfolding closes_chunk
  no_wait_shuts chunk h = (refl, λ _. no_wait_loses (evicted_at s (ChunkClosed chunk ∷ h) chunk) (ChunkClosed chunk ∷ h))

  no_wait_fills : (chunk : ℕ) (h : History) → IsWaitless (closes_if_full s chunk h)
  unfolding closes_if_full
  no_wait_fills chunk h = waitless_if (nat_le full_chunk (size h chunk)) (closes_chunk s chunk h) (Return h) (no_wait_shuts chunk h) tt

  no_wait_closes : (cs : List ChunkInfo) (h : History) → IsWaitless (closes_each s cs h)
  no_wait_closes [] h = tt
  no_wait_closes (c ∷ cs) h = waitless_bind (closes_chunk s c.number h) (closes_each s cs) (no_wait_shuts c.number h) (no_wait_closes cs)

  no_wait_closes_all : (h : History) → IsWaitless (closes_all s h)
  unfolding closes_all
  no_wait_closes_all h = no_wait_closes (open_chunks h) h

  -- ---- acceptance

  no_wait_appended : (b : Batch) (chunk : ℕ) (h : History) (answer : Option (Unit {0})) → IsWaitless (finishes_append s b chunk h answer)
  no_wait_appended b chunk h (Some done) = (refl, λ _. waitless_bind (closes_if_full s chunk _) taken (no_wait_fills chunk _) (λ _. tt))
  no_wait_appended b chunk h None = (refl, λ _. (refl, λ _. waitless_bind (closes_chunk s chunk _) ends_refused (no_wait_shuts chunk _) (λ _. tt)))

  no_wait_placed : (b : Batch) (chunk : ℕ) (h : History) (answer : Option (Unit {0})) → IsWaitless (finishes_create s b chunk h answer)
  no_wait_placed b chunk h (Some done) = (refl, λ _. waitless_bind (closes_if_full s chunk _) taken (no_wait_fills chunk _) (λ _. tt))
  no_wait_placed b chunk h None = (refl, λ _. (refl, λ _. tt))

  no_wait_stores : (b : Batch) (c : Option ChunkInfo) (h : History) → IsWaitless (stores s b c h)
  unfolding appends starts_chunk
  no_wait_stores b (Some c) h = (refl, λ _. waitless_disk (append_to_program (kept_of s h c.number) (encoded b.events) s.service.full) _ (no_wait_appended b c.number _))
  no_wait_stores b None h =
      waitless_if (nat_lt (next h) numbers_end) (starts_chunk s b (next h) h) (refuses b NoNumber h)
      (refl, λ _. waitless_disk (places (name_for s b.input (next h)) b.tag (home_at s b.input) (encoded b.events) (names_for s b.tag)) _ (no_wait_placed b (next h) _)) (refl, λ _. tt)

  no_wait_accepts : (b : Batch) (h : History) → IsWaitless (accepts s b h)
  unfolding accepts
  no_wait_accepts b h =
      let kept : Action Acceptance = cond (is_storable b.events) (stores s b (open_chunk h b.input b.tag) h) (refuses b TooLarge h) in
      let routed : Action Acceptance = cond (is_empty (outputs_for s b.tag)) (note_then (Accepted b NoChunk) h taken) kept in
      waitless_if (is_empty b.events) (taken h) routed tt
      (waitless_if (is_empty (outputs_for s b.tag)) (note_then (Accepted b NoChunk) h taken) kept (refl, λ _. tt)
      (waitless_if (is_storable b.events) (stores s b (open_chunk h b.input b.tag) h) (refuses b TooLarge h) (no_wait_stores b (open_chunk h b.input b.tag) h) (refl, λ _. tt)))

  no_wait_takes : (b : Batch) (h : History) → IsWaitless (ingests s b h)
  unfolding ingests
  no_wait_takes b h = waitless_bind (accepts s b h) (λ (a : Acceptance). Return a.history) (no_wait_accepts b h) (λ _. tt)

  -- ---- flushes

  no_wait_retries : (r : Route) (h : History) → IsWaitless (retries s r h)
  unfolding retries
  no_wait_retries r h =
      waitless_if (may_retry (retries_at (output_at s r.output)) (tries h r)) (Ask (OnLoop Word) (λ word. note (OnRoute r (Retries word)) h)) (note_then (OnRoute r Exhausted) h (marks_or_removes s r))
      (refl, λ _. (refl, λ _. tt)) (refl, λ _. no_wait_settles r _)

  no_wait_answers_by : (r : Route) (answer : Answered) (h : History) → IsWaitless (applies_answer s r answer h)
  no_wait_answers_by r Good h = (refl, λ _. no_wait_settles r _)
  no_wait_answers_by r Retry h = no_wait_retries r h
  no_wait_answers_by r Bad h = (refl, λ _. no_wait_settles r _)

  no_wait_stands_in : (r : Route) (progress : Progress) (stage : Stage) (h : History) → IsWaitless (notes_stage s r progress stage h)
  no_wait_stands_in r progress Opening h = (refl, λ _. tt)
  no_wait_stands_in r progress (Writing link) h = (refl, λ _. tt)
  no_wait_stands_in r progress (AwaitingAck link) h = (refl, λ _. tt)
  no_wait_stands_in r progress (Ended answer) h = no_wait_answers_by r answer h

  no_wait_lands : (r : Route) (before : ℕ) (h : History) (progress : Progress) → IsWaitless (notes_calls s r before progress h)
  unfolding notes_calls stands
  no_wait_lands r before h progress = (refl, λ _. no_wait_stands_in r progress progress.stage _)

  no_wait_begins_with : (r : Route) (events : List Event) (h : History) → IsWaitless (starts_with s r events h)
  unfolding starts_with starts
  no_wait_begins_with r events h =
      let at : History = OnRoute r (FlushStarted events) ∷ h in
      (refl, λ _. (refl, λ answer. waitless_links (dialed_on (delivery s at r) not_started answer) _ (links_dialed_on (delivery s at r) not_started answer) (no_wait_lands r 0 at)))

  no_wait_read_behind : (r : Route) (kept : ℕ) (h : History) (bytes : Option (List ℕ)) → IsWaitless (after_read s r kept h bytes)
  no_wait_read_behind r kept h None = (refl, λ _. tt)
  no_wait_read_behind r kept h (Some bytes) = waitless_if (is_complete_read kept bytes) (starts_with s r (events_in bytes).0 h) (Return h) (no_wait_begins_with r (events_in bytes).0 h) tt

  no_wait_begins_as : (r : Route) (kept : Option Kept) (h : History) → IsWaitless (begins_as s r kept h)
  no_wait_begins_as r None h = tt
  no_wait_begins_as r (Some (InMemory content)) h = no_wait_begins_with r (records_of h r.chunk) h
  no_wait_begins_as r (Some (InFile head)) h = waitless_disk (read_content_program (InFile head)) _ (no_wait_read_behind r (size_of (InFile head)) h)
  no_wait_begins_as r (Some (Adopted head)) h = waitless_disk (read_content_program (Adopted head)) _ (no_wait_read_behind r (size_of (Adopted head)) h)

  no_wait_turn : (r : Route) (h : History) → IsWaitless (starts_if_allowed s r h)
  unfolding starts_if_allowed starts_flush
  no_wait_turn r h = waitless_if (may_start s h r) (starts_flush s r h) (Return h) (no_wait_begins_as r (kept_of s h r.chunk) h) tt

  no_wait_turns : (rs : List Route) (h : History) → IsWaitless (starts_each s rs h)
  no_wait_turns [] h = tt
  no_wait_turns (r ∷ rs) h = waitless_bind (starts_if_allowed s r h) (starts_each s rs) (no_wait_turn r h) (no_wait_turns rs)

  no_wait_walk : (h : History) → IsWaitless (walk s h)
  unfolding walk
  no_wait_walk h = no_wait_turns (due_routes s h) h

  no_wait_goes_on : (go : Delivery → Progress → LoopProgram Progress) (r : Route) (at : Option Progress) (h : History) → ((d : Delivery) (p : Progress) → OnLinks (go d p))
      → IsWaitless (goes_on s (λ d p. on_loop (go d p)) r at h)
  no_wait_goes_on go r None h links = tt
  no_wait_goes_on go r (Some progress) h links = waitless_links (go (delivery s h r) progress) _ (links (delivery s h r) progress) (no_wait_lands r progress.taken h)

  no_wait_resumes : (go : Delivery → Progress → LoopProgram Progress) (r : Option Route) (h : History) → ((d : Delivery) (p : Progress) → OnLinks (go d p))
      → IsWaitless (resumes s (λ d p. on_loop (go d p)) r h)
  no_wait_resumes go None h links = tt
  no_wait_resumes go (Some r) h links = no_wait_goes_on go r (flight h r) h links

  -- ---- input

  no_wait_hangs_up : (conn : ℕ) (h : History) → IsWaitless (hangs_up conn h)
  unfolding hangs_up
  no_wait_hangs_up conn h = (refl, λ _. (refl, λ _. tt))

  no_wait_replied : (conn : ℕ) (next : History → Action History) (h : History) (answer : Option (Unit {0})) → ((at : History) → IsWaitless (next at)) → IsWaitless (after_reply conn next h answer)
  no_wait_replied conn next h (Some done) more = more h
  no_wait_replied conn next h None more = no_wait_hangs_up conn h

  no_wait_answers : (conn : ℕ) (asked : Option (List ℕ)) (next : History → Action History) (a : Acceptance) → ((at : History) → IsWaitless (next at)) → IsWaitless (acknowledges conn asked next a)
  no_wait_answers conn asked next a more = waitless_if a.taken (replies conn asked next a.history) (hangs_up conn a.history) (by asked) (no_wait_hangs_up conn a.history)
    where
      by : (asked : Option (List ℕ)) → IsWaitless (replies conn asked next a.history)
      by None = more a.history
      by (Some bytes) = (refl, λ answer. no_wait_replied conn next a.history answer more)

  no_wait_reads : (input conn : ℕ) (breaks : Bool) (ms : List MessageContent) (h : History) → IsWaitless (accepts_messages s input conn breaks ms h)
  no_wait_reads input conn false [] h = tt
  no_wait_reads input conn true [] h = (refl, λ _. no_wait_hangs_up conn _)
  no_wait_reads input conn breaks (m ∷ ms) h =
      waitless_bind (accepts s (message_batch s input m) h) (acknowledges conn (reply_of m) (accepts_messages s input conn breaks ms)) (no_wait_accepts (message_batch s input m) h)
      (λ a. no_wait_answers conn (reply_of m) (accepts_messages s input conn breaks ms) a (no_wait_reads input conn breaks ms))

  no_wait_hears : (before : History) (input : ℕ) (bytes : List ℕ) (stream : Option Stream) (h : History) → IsWaitless (accepts_stream s before input bytes stream h)
  no_wait_hears before input bytes None h = tt
  no_wait_hears before input bytes (Some (LineStream conn)) h = no_wait_takes (piece_batch s before input (LineStream conn) bytes) h
  no_wait_hears before input bytes (Some (MessageStream conn)) h = no_wait_reads input conn (becomes_malformed (said s before (MessageStream conn)) bytes) (completed_messages (said s before (MessageStream conn)) bytes) h
  no_wait_hears before input bytes (Some (Standard reader)) h = no_wait_takes (piece_batch s before input (Standard reader) bytes) h

  no_wait_polled : (input index : ℕ) (h : History) (poll : Option Poll) → IsWaitless (polled s input index h poll)
  no_wait_polled input index h None = (refl, λ _. tt)
  no_wait_polled input index h (Some poll) = (refl, λ _. no_wait_takes (poll_batch s h input index poll) _)

  no_wait_polls_files : (input index : ℕ) (paths : List (List ℕ)) (h : History) → IsWaitless (polls_files s input index paths h)
  unfolding polls_file
  no_wait_polls_files input index [] h = tt
  no_wait_polls_files input index (path ∷ paths) h =
      waitless_bind (polls_file s input index path h) (polls_files s input (index + 1) paths)
      (waitless_files (polls_of path (from_head_at s input) (file_at s h input index).place) (polled s input index h) (polls_read path (from_head_at s input) (file_at s h input index).place) (no_wait_polled input index h))
      (no_wait_polls_files input (index + 1) paths)

  no_wait_follows : (input : ℕ) (h : History) → IsWaitless (polls_input s input h)
  unfolding polls_input
  no_wait_follows input h = waitless_if (is_paused s h input) (Return h) (polls_files s input 0 (paths_at s input) h) tt (no_wait_polls_files input 0 (paths_at s input) h)

  no_wait_follows_each : (inputs : List ℕ) (h : History) → IsWaitless (polls_inputs s inputs h)
  no_wait_follows_each [] h = tt
  no_wait_follows_each (input ∷ inputs) h = waitless_bind (polls_input s input h) (polls_inputs s inputs) (no_wait_follows input h) (no_wait_follows_each inputs)

  -- ---- steps

  no_wait_walks : (closing : Bool) (h : History) → IsWaitless (closes_and_dispatches s closing h)
  unfolding closes_and_dispatches
  no_wait_walks closing h = waitless_if closing (bind (closes_all s h) (walk s)) (walk s h) (waitless_bind (closes_all s h) (walk s) (no_wait_closes_all h) no_wait_walk) (no_wait_walk h)

  no_wait_stops : (before : Option ℕ) (h : History) → IsWaitless (stops s before h)
  unfolding stops
  no_wait_stops before h = waitless_if (is_some before) (Return h) (closes_and_dispatches s true h) tt (no_wait_walks true h)

  no_wait_happens : (before : History) (brought : Happening) (h : History) → IsWaitless (handles s before brought h)
  unfolding ticks polls_all pieces at_room at_reply at_break at_input_end
  no_wait_happens before (happening.Tick now) h =
      waitless_bind (polls_all s h) (closes_and_dispatches s (is_close_due s before now)) (no_wait_follows_each (range_with_len 0 (length s.inputs)) h) (no_wait_walks (is_close_due s before now))
  no_wait_happens before (happening.Joined input conn) h = tt
  no_wait_happens before (happening.Piece input conn bytes) h = no_wait_hears before input.0 bytes (stream_of s before input.0 conn.0) h
  no_wait_happens before (happening.Gone input conn) h = tt
  no_wait_happens before (happening.Room link) h = no_wait_resumes polls (route_on_link h link.0) h links_polls
  no_wait_happens before (happening.Back link bytes) h = no_wait_resumes (λ d p. backs d bytes p) (route_on_link h link.0) h (λ d p. links_backs d bytes p)
  no_wait_happens before (happening.Broken link) h = no_wait_resumes (λ d p. breaks p) (route_on_link h link.0) h (λ d p. links_breaks p)
  no_wait_happens before (happening.InputEnd input) h =
      waitless_if (reads_stdin_at s input.0) (bind (ingests s (end_batch s before input.0 (Standard input.0)) h) (stops s (stopped s before))) (Return h)
      (waitless_bind (ingests s (end_batch s before input.0 (Standard input.0)) h) (stops s (stopped s before)) (no_wait_takes (end_batch s before input.0 (Standard input.0)) h) (no_wait_stops (stopped s before))) tt
  no_wait_happens before happening.Stop h = no_wait_stops (stopped s before) h
  no_wait_happens before happening.End h = tt
  no_wait_happens before happening.Failed h = tt

  no_wait_step : (x : Happening) (h : History) → IsWaitless (step s x h)
  unfolding step
  no_wait_step x h = (refl, λ _. no_wait_happens h x (Happened x ∷ h))

  pub step_plain : (x : Happening) (h : History) (entries : List TraceEntry) (left : Action History) → Execution (step s x h) entries left → ArePlain entries
  step_plain x h entries left way = plain_way (step s x h) entries left (no_wait_step x h) way

  pub step_waitless : (x : Happening) (h : History) (entries : List TraceEntry) (left : Action History) → Execution (step s x h) entries left → waits_in entries ≡ 0
  step_waitless x h entries left way = waitless_way (step s x h) entries left (no_wait_step x h) way

  -- ---- loading

  no_wait_finds : (number : ℕ) (accepts_messages : List FileRead) (h : History) → IsWaitless (notes_files number accepts_messages h)
  no_wait_finds number [] h = tt
  no_wait_finds number (read ∷ accepts_messages) h = (refl, λ _. no_wait_finds (number + 1) accepts_messages _)

  no_wait_loads_from : (root : Option (List ℕ)) → IsWaitless (loads_from root)
  no_wait_loads_from None = tt
  no_wait_loads_from (Some root) = waitless_disk (load_program root) loaded by
    where
      by : (accepts_messages : Option (List FileRead)) → IsWaitless (loaded accepts_messages)
      by None = tt
      by (Some accepts_messages) = no_wait_finds 1 accepts_messages []

  pub loading_plain : (entries : List TraceEntry) (left : Action (Option History)) → Execution (recovers s) entries left → ArePlain entries
  unfolding recovers
  loading_plain entries left way = plain_way (recovers s) entries left (no_wait_loads_from s.service.path) way

  pub loading_waitless : (entries : List TraceEntry) (left : Action (Option History)) → Execution (recovers s) entries left → waits_in entries ≡ 0
  unfolding recovers
  loading_waitless entries left way = waitless_way (recovers s) entries left (no_wait_loads_from s.service.path) way

  -- ---- a turn

  no_wait_steps_on : (next : History → Action RunResult) (x : Happening) (h : History) → ((at : History) → NeverWaits (next at)) → NeverWaits (steps_on s next x h)
  no_wait_steps_on next x h more =
      never_bind (step s x h) (run_goes_on s next x) (waitless_never (step s x h) (no_wait_step x h)) (λ at. never_if (is_over s x at) (Return (lived at Over)) (next at) tt (more at))

  no_wait_unless_last : (ticks : Option ℕ) (next : History → Action RunResult) (x : Happening) (h : History) → ((at : History) → NeverWaits (next at)) → NeverWaits (unless_last s ticks next x h)
  no_wait_unless_last ticks next x h more =
      never_if (is_last_tick s ticks x h) (steps_on s next happening.Stop h) (next h) (no_wait_steps_on next happening.Stop h more) (more h)

  no_wait_put : (t : Tracked) (place : ℕ) (next : History → Action RunResult) → ((at : History) → NeverWaits (next at)) → (answer : Option (Unit {0})) (h : History) → NeverWaits (after_put t place next h answer)
  no_wait_put t place next more None h = more h
  no_wait_put t place next more (Some done) h = (refl, λ _. more _)

  no_wait_puts_by : (t : Tracked) (o : Option ℕ) (next : History → Action RunResult) → ((at : History) → NeverWaits (next at)) → (h : History) → NeverWaits (puts_by t o next h)
  no_wait_puts_by t None next more h = more h
  no_wait_puts_by t (Some place) next more h = (refl, λ answer. no_wait_put t place next more answer h)

  no_wait_puts : (ts : List Tracked) (next : History → Action RunResult) → ((at : History) → NeverWaits (next at)) → (h : History) → NeverWaits (puts s ts next h)
  no_wait_puts [] next more h = more h
  no_wait_puts (t ∷ ts) next more h = no_wait_puts_by t (to_put (settled s h t.input t.index) (kept_at h t.input t.index)) (puts s ts next) (no_wait_puts ts next more) h

  no_wait_brought : (ticks : Option ℕ) (next : History → Action RunResult) (h : History) (x : Happening) → ((at : History) → NeverWaits (next at)) → NeverWaits (brought s ticks next h x)
  no_wait_brought ticks next h happening.Failed more = tt
  no_wait_brought ticks next h x more =
      never_bind (step s x h) (after_step s ticks next x) (waitless_never (step s x h) (no_wait_step x h))
      (λ at.
      no_wait_puts (tracked s) (run_goes_on s (unless_last s ticks next x) x)
      (λ later. never_if (is_over s x later) (Return (lived later Over)) (unless_last s ticks next x later) tt (no_wait_unless_last ticks next x later more)) at)

  pub turn_waits_first : (ticks : Option ℕ) (h : History) (entries : List TraceEntry) (left : Action RunResult) → Execution (run s ticks 1 h) entries left → (entries ≡ []) ⊎ WaitsFirst s h entries
  unfolding run
  turn_waits_first ticks h [] left way = inl refl
  turn_waits_first ticks h (e ∷ es) left way = inr (record {
    brought = way.0;
    rest = es;
    first = ap (λ (x : TraceEntry). x ∷ es) way.1;
    no_more = never_way (brought s ticks (run s ticks 0) h way.0) es left (no_wait_brought ticks (run s ticks 0) h way.0 (λ _. tt)) way.2;
  })

  pub turn_waits_once : (ticks : Option ℕ) (h : History) (lived : RunResult) (entries : List TraceEntry) → Execution (run s ticks 1 h) entries (Return lived)
      → (waits_in entries ≡ 1) × WaitsFirst s h entries
  unfolding run
  turn_waits_once ticks h lived entries way = elim (turn_waits_first ticks h entries (Return lived) way) [
    | inl none ↦ absurd (cc (subst (λ (es : List TraceEntry). Execution (run s ticks 1 h) es (Return lived)) none way))
    | inr first ↦ (rw first.first (ap (λ n. n + 1) first.no_more), first)
  ]
