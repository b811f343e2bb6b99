-- Actions without replies, drops of connections, and events.
use Rattle.std.proofs.Common.{◌≡◌, ℕ, ◌+◌, Bool, true, false, cond, List, [], ◌∷◌, length, nat_lt, Option, Some, None, refl}
use Rattle.std.specs.Prelude.{nat_le, is_some}
use Rattle.std.specs.List.{range_with_len}
use Rattle.fwd_base.specs.Limits.{full_chunk, numbers_end}
use Rattle.fwd_event.specs.declared.event.Event.{Event}
use Rattle.fwd_event.specs.EventPrefix.{events_in}
use Rattle.fwd_base.specs.declared.ids.ConnId.{ConnId}
use Rattle.fwd_base.specs.declared.ids.InputId.{InputId}
use Rattle.fwd_outside.specs.Program.{Return, Ask, bind}
use Rattle.fwd_outside.specs.Loop.{LoopProgram, Push, Close, Reply, DropConn, Word}
use Rattle.fwd_outside.specs.Disk.{DiskProgram}
use Rattle.fwd_outside.specs.Files.{FilesProgram}
use Rattle.fwd_outside.specs.declared.happening.Happening.{Happening}
use Rattle.fwd_outside.specs.declared.happening.Happening.TheVariants as happening
use Rattle.fwd_backlog.specs.declared.file_read.FileRead.{FileRead}
use Rattle.fwd_backlog.specs.LoadProgram.{load_program}
use Rattle.fwd_table.specs.Outcomes.{may_retry}
use Rattle.fwd_table.specs.declared.outcome.Answer.{Answer as Answered}
use Rattle.fwd_table.specs.declared.outcome.Answer.TheVariants.{Good, Retry, Bad}
use Rattle.fwd_chunk.specs.declared.kept.Kept.{Kept}
use Rattle.fwd_chunk.specs.declared.kept.Kept.TheVariants.{InFile, Adopted, InMemory}
use Rattle.fwd_chunk.specs.Kept.{size_of}
use Rattle.fwd_chunk.specs.Content.{read_content_program}
use Rattle.fwd_store.specs.Store.{drops as removes, settle_for_program, append_to_program, begins_as as places}
use Rattle.fwd_flush.specs.declared.stage.Stage.{Stage}
use Rattle.fwd_flush.specs.declared.stage.Stage.TheVariants.{Opening, Writing, AwaitingAck, Ended}
use Rattle.fwd_flush.specs.FlushProgram.{Progress, Delivery, dialed_on, not_started, starts, polls, backs, breaks}
use Rattle.fwd_in_tail.specs.Followed.{Polled as Poll, polls as polls_of}
use Rattle.fwd_settings.specs.declared.settings_types.AllSettings.{AllSettings}
use Rattle.fwd_model.specs.Fact.{History, Route, FlushStarted, Standard, Batch, NoChunk, TooLarge, NoNumber, Retries, OnRoute, Exhausted, Accepted, Happened, ChunkClosed}
use Rattle.fwd_model.specs.Trace.{Answer, Action, TraceEntry, OnLoop, Call, Note}
use Rattle.fwd_model.specs.DeviceActions.{on_loop, on_disk, on_files}
use Rattle.fwd_model.specs.Settings.{outputs_for, output_at, output_name, retries_at, home_at, names_for, paths_at, from_head_at, reads_stdin_at}
use Rattle.fwd_model.specs.Clock.{stopped, is_close_due}
use Rattle.fwd_model.specs.FollowedFiles.{file_at}
use Rattle.fwd_model.specs.Batches.{end_batch, poll_batch}
use Rattle.fwd_model.specs.Chunks.{ChunkInfo, open_chunks, open_chunk, next, size, encoded, is_storable, records as records_of}
use Rattle.fwd_model.specs.ChunkStorage.{kept_of, mark_position, name_for}
use Rattle.fwd_model.specs.Routes.{owes, tries, flight, route_on_link}
use Rattle.fwd_model.specs.Payloads.{delivery}
use Rattle.fwd_model.specs.Limits.{evicted_at, is_paused}
use Rattle.fwd_model.specs.Dispatch.{due_routes, may_start}
use Rattle.fwd_model.specs.Notes.{note_then, note, is_empty}
use Rattle.fwd_model.specs.ResolveActions.{dropped, drops, after_mark, marks_at, records, marks_or_removes}
use Rattle.fwd_model.specs.CloseActions.{loses, closes_chunk, closes_if_full, closes_each, closes_all}
use Rattle.fwd_model.specs.Acceptance.{Acceptance, taken, ends_refused, refuses, finishes_append, finishes_create, appends, starts_chunk, stores, accepts, ingests}
use Rattle.fwd_model.specs.FlushActions.{retries, applies_answer, notes_stage, stands, notes_calls, starts_with, is_complete_read, after_read, begins_as, starts_flush, starts_if_allowed, starts_each, walk, goes_on, resumes, at_room, at_reply, at_break}
use Rattle.fwd_model.specs.InputActions.{polled, polls_file, polls_files, polls_input, polls_inputs, polls_all}
use Rattle.fwd_model.specs.StepActions.{closes_and_dispatches, ticks, stops, at_input_end, handles}
use Rattle.fwd_model.specs.RecoveryActions.{notes_files, loaded, loads_from, recovers}
use Rattle.fwd_theorem_trace.proofs.Actions.{OnLinks, links_dialed_on, links_polls, links_backs, links_breaks}

-- a call that isn't a reply, drops no connection and logs no event
abbrev pub is_silent : Call → Bool
is_silent (OnLoop (Reply conn bytes)) = false
is_silent (OnLoop (DropConn conn)) = false
is_silent (Note (Happened brought)) = false
is_silent call = true

abbrev pub AreSilent : List TraceEntry → Type 0
AreSilent [] = Unit {0}
AreSilent (e ∷ es) = (is_silent e.call ≡ true) × AreSilent es

-- for all answers, each call of the action is one of these
abbrev pub IsSilent : {R : Type 0} → Action R → Type 0
IsSilent (Return x) = Unit {0}
IsSilent (Ask call go) = (is_silent call ≡ true) × ((answer : Answer call) → IsSilent (go answer))

pub still_act_bind : {R S : Type 0} (p : Action R) (next : R → Action S) → IsSilent p → ((x : R) → IsSilent (next x)) → IsSilent (bind p next)
still_act_bind (Return x) next first more = more x
still_act_bind (Ask call go) next first more = (first.0, λ answer. still_act_bind (go answer) next (first.1 answer) more)

pub still_act_if : {R : Type 0} (b : Bool) (p q : Action R) → IsSilent p → IsSilent q → IsSilent (cond b p q)
still_act_if true p q first second = first
still_act_if false p q first second = second

pub still_act_disk : {R S : Type 0} (p : DiskProgram R) (next : R → Action S) → ((x : R) → IsSilent (next x)) → IsSilent (bind (on_disk p) next)
still_act_disk (Return x) next more = more x
still_act_disk (Ask call go) next more = (refl, λ answer. still_act_disk (go answer) next more)

still_act_files : {R S : Type 0} (p : FilesProgram R) (next : R → Action S) → ((x : R) → IsSilent (next x)) → IsSilent (bind (on_files p) next)
still_act_files (Return x) next more = more x
still_act_files (Ask call go) next more = (refl, λ answer. still_act_files (go answer) next more)

still_act_links : {R S : Type 0} (p : LoopProgram R) (next : R → Action S) → OnLinks p → ((x : R) → IsSilent (next x)) → IsSilent (bind (on_loop p) next)
still_act_links (Return x) next links more = more x
still_act_links (Ask (Push link bytes) go) next links more = (refl, λ answer. still_act_links (go answer) next (links.1 answer) more)
still_act_links (Ask (Close link) go) next links more = (refl, λ answer. still_act_links (go answer) next (links.1 answer) more)
still_act_links (Ask call go) next links more = absurd links.0

module _ (s : AllSettings) where
  -- ---- resolving

  still_dropped : (chunk : ℕ) (h : History) (answer : Option (Unit {0})) → IsSilent (dropped chunk h answer)
  still_dropped chunk h (Some done) = (refl, λ _. tt)
  still_dropped chunk h None = (refl, λ _. (refl, λ _. tt))

  still_drops : (chunk : ℕ) (h : History) → IsSilent (drops s chunk h)
  unfolding drops
  still_drops chunk h = still_act_disk (removes (kept_of s h chunk)) (dropped chunk h) (still_dropped chunk h)

  still_recorded : (r : Route) (h : History) (answer : Option Bool) → IsSilent (after_mark r h answer)
  still_recorded r h (Some done) = (refl, λ _. tt)
  still_recorded r h None = (refl, λ _. tt)

  still_records_at : (r : Route) (kept : Option Kept) (place : Option ℕ) (h : History) → IsSilent (marks_at s r kept place h)
  still_records_at r kept None h = tt
  still_records_at r kept (Some place) h = (refl, λ _. still_act_disk (settle_for_program kept (output_name s r.output) s.service.full) _ (still_recorded r _))

  still_settles : (r : Route) (h : History) → IsSilent (marks_or_removes s r h)
  unfolding marks_or_removes records
  still_settles r h =
      still_act_if (owes s h r.chunk) (records s r h) (drops s r.chunk h) (still_records_at r (kept_of s h r.chunk) (mark_position (output_name s r.output) (kept_of s h r.chunk)) h) (still_drops r.chunk h)

  -- ---- closing

  still_loses : (rs : List Route) (h : History) → IsSilent (loses s rs h)
  still_loses [] h = tt
  still_loses (r ∷ rs) h = (refl, λ _. still_act_bind (marks_or_removes s r _) (loses s rs) (still_settles r _) (still_loses rs))

  pub still_shuts : (chunk : ℕ) (h : History) → IsSilent (closes_chunk s chunk h)
  unfolding closes_chunk
  still_shuts chunk h = (refl, λ _. still_loses (evicted_at s (ChunkClosed chunk ∷ h) chunk) (ChunkClosed chunk ∷ h))

  pub still_fills : (chunk : ℕ) (h : History) → IsSilent (closes_if_full s chunk h)
  unfolding closes_if_full
  still_fills chunk h = still_act_if (nat_le full_chunk (size h chunk)) (closes_chunk s chunk h) (Return h) (still_shuts chunk h) tt

  still_closes : (cs : List ChunkInfo) (h : History) → IsSilent (closes_each s cs h)
  still_closes [] h = tt
  still_closes (c ∷ cs) h = still_act_bind (closes_chunk s c.number h) (closes_each s cs) (still_shuts c.number h) (still_closes cs)

  still_closes_all : (h : History) → IsSilent (closes_all s h)
  unfolding closes_all
  still_closes_all h = still_closes (open_chunks h) h

  -- ---- acceptance

  still_appended : (b : Batch) (chunk : ℕ) (h : History) (answer : Option (Unit {0})) → IsSilent (finishes_append s b chunk h answer)
  still_appended b chunk h (Some done) = (refl, λ _. still_act_bind (closes_if_full s chunk _) taken (still_fills chunk _) (λ _. tt))
  still_appended b chunk h None = (refl, λ _. (refl, λ _. still_act_bind (closes_chunk s chunk _) ends_refused (still_shuts chunk _) (λ _. tt)))

  still_placed : (b : Batch) (chunk : ℕ) (h : History) (answer : Option (Unit {0})) → IsSilent (finishes_create s b chunk h answer)
  still_placed b chunk h (Some done) = (refl, λ _. still_act_bind (closes_if_full s chunk _) taken (still_fills chunk _) (λ _. tt))
  still_placed b chunk h None = (refl, λ _. (refl, λ _. tt))

  still_stores : (b : Batch) (c : Option ChunkInfo) (h : History) → IsSilent (stores s b c h)
  unfolding appends starts_chunk
  still_stores b (Some c) h = (refl, λ _. still_act_disk (append_to_program (kept_of s h c.number) (encoded b.events) s.service.full) _ (still_appended b c.number _))
  still_stores b None h =
      still_act_if (nat_lt (next h) numbers_end) (starts_chunk s b (next h) h) (refuses b NoNumber h)
      (refl, λ _. still_act_disk (places (name_for s b.input (next h)) b.tag (home_at s b.input) (encoded b.events) (names_for s b.tag)) _ (still_placed b (next h) _)) (refl, λ _. tt)

  pub still_accepts : (b : Batch) (h : History) → IsSilent (accepts s b h)
  unfolding accepts
  still_accepts b h =
      let kept : Action Acceptance = cond (is_storable b.events) (stores s b (open_chunk h b.input b.tag) h) (refuses b TooLarge h) in
      let routed : Action Acceptance = cond (is_empty (outputs_for s b.tag)) (note_then (Accepted b NoChunk) h taken) kept in
      still_act_if (is_empty b.events) (taken h) routed tt
      (still_act_if (is_empty (outputs_for s b.tag)) (note_then (Accepted b NoChunk) h taken) kept (refl, λ _. tt)
      (still_act_if (is_storable b.events) (stores s b (open_chunk h b.input b.tag) h) (refuses b TooLarge h) (still_stores b (open_chunk h b.input b.tag) h) (refl, λ _. tt)))

  pub still_takes : (b : Batch) (h : History) → IsSilent (ingests s b h)
  unfolding ingests
  still_takes b h = still_act_bind (accepts s b h) (λ (a : Acceptance). Return a.history) (still_accepts b h) (λ _. tt)

  -- ---- flushes

  still_retries : (r : Route) (h : History) → IsSilent (retries s r h)
  unfolding retries
  still_retries r h =
      still_act_if (may_retry (retries_at (output_at s r.output)) (tries h r)) (Ask (OnLoop Word) (λ word. note (OnRoute r (Retries word)) h)) (note_then (OnRoute r Exhausted) h (marks_or_removes s r))
      (refl, λ _. (refl, λ _. tt)) (refl, λ _. still_settles r _)

  still_answers_by : (r : Route) (answer : Answered) (h : History) → IsSilent (applies_answer s r answer h)
  still_answers_by r Good h = (refl, λ _. still_settles r _)
  still_answers_by r Retry h = still_retries r h
  still_answers_by r Bad h = (refl, λ _. still_settles r _)

  still_stands_in : (r : Route) (progress : Progress) (stage : Stage) (h : History) → IsSilent (notes_stage s r progress stage h)
  still_stands_in r progress Opening h = (refl, λ _. tt)
  still_stands_in r progress (Writing link) h = (refl, λ _. tt)
  still_stands_in r progress (AwaitingAck link) h = (refl, λ _. tt)
  still_stands_in r progress (Ended answer) h = still_answers_by r answer h

  still_lands : (r : Route) (before : ℕ) (h : History) (progress : Progress) → IsSilent (notes_calls s r before progress h)
  unfolding notes_calls stands
  still_lands r before h progress = (refl, λ _. still_stands_in r progress progress.stage _)

  still_begins_with : (r : Route) (events : List Event) (h : History) → IsSilent (starts_with s r events h)
  unfolding starts_with starts
  still_begins_with r events h =
      let at : History = OnRoute r (FlushStarted events) ∷ h in
      (refl, λ _. (refl, λ answer. still_act_links (dialed_on (delivery s at r) not_started answer) _ (links_dialed_on (delivery s at r) not_started answer) (still_lands r 0 at)))

  still_read_behind : (r : Route) (kept : ℕ) (h : History) (bytes : Option (List ℕ)) → IsSilent (after_read s r kept h bytes)
  still_read_behind r kept h None = (refl, λ _. tt)
  still_read_behind r kept h (Some bytes) = still_act_if (is_complete_read kept bytes) (starts_with s r (events_in bytes).0 h) (Return h) (still_begins_with r (events_in bytes).0 h) tt

  still_begins_as : (r : Route) (kept : Option Kept) (h : History) → IsSilent (begins_as s r kept h)
  still_begins_as r None h = tt
  still_begins_as r (Some (InMemory content)) h = still_begins_with r (records_of h r.chunk) h
  still_begins_as r (Some (InFile head)) h = still_act_disk (read_content_program (InFile head)) _ (still_read_behind r (size_of (InFile head)) h)
  still_begins_as r (Some (Adopted head)) h = still_act_disk (read_content_program (Adopted head)) _ (still_read_behind r (size_of (Adopted head)) h)

  still_turn : (r : Route) (h : History) → IsSilent (starts_if_allowed s r h)
  unfolding starts_if_allowed starts_flush
  still_turn r h = still_act_if (may_start s h r) (starts_flush s r h) (Return h) (still_begins_as r (kept_of s h r.chunk) h) tt

  still_turns : (rs : List Route) (h : History) → IsSilent (starts_each s rs h)
  still_turns [] h = tt
  still_turns (r ∷ rs) h = still_act_bind (starts_if_allowed s r h) (starts_each s rs) (still_turn r h) (still_turns rs)

  still_walk : (h : History) → IsSilent (walk s h)
  unfolding walk
  still_walk h = still_turns (due_routes s h) h

  still_goes_on : (go : Delivery → Progress → LoopProgram Progress) (r : Route) (at : Option Progress) (h : History) → ((d : Delivery) (p : Progress) → OnLinks (go d p))
      → IsSilent (goes_on s (λ d p. on_loop (go d p)) r at h)
  still_goes_on go r None h links = tt
  still_goes_on go r (Some progress) h links = still_act_links (go (delivery s h r) progress) _ (links (delivery s h r) progress) (still_lands r progress.taken h)

  still_resumes : (go : Delivery → Progress → LoopProgram Progress) (r : Option Route) (h : History) → ((d : Delivery) (p : Progress) → OnLinks (go d p))
      → IsSilent (resumes s (λ d p. on_loop (go d p)) r h)
  still_resumes go None h links = tt
  still_resumes go (Some r) h links = still_goes_on go r (flight h r) h links

  -- ---- polls

  still_polled : (input index : ℕ) (h : History) (poll : Option Poll) → IsSilent (polled s input index h poll)
  still_polled input index h None = (refl, λ _. tt)
  still_polled input index h (Some poll) = (refl, λ _. still_takes (poll_batch s h input index poll) _)

  still_polls_files : (input index : ℕ) (paths : List (List ℕ)) (h : History) → IsSilent (polls_files s input index paths h)
  unfolding polls_file
  still_polls_files input index [] h = tt
  still_polls_files input index (path ∷ paths) h =
      still_act_bind (polls_file s input index path h) (polls_files s input (index + 1) paths)
      (still_act_files (polls_of path (from_head_at s input) (file_at s h input index).place) (polled s input index h) (still_polled input index h))
      (still_polls_files input (index + 1) paths)

  still_follows : (input : ℕ) (h : History) → IsSilent (polls_input s input h)
  unfolding polls_input
  still_follows input h = still_act_if (is_paused s h input) (Return h) (polls_files s input 0 (paths_at s input) h) tt (still_polls_files input 0 (paths_at s input) h)

  still_follows_each : (inputs : List ℕ) (h : History) → IsSilent (polls_inputs s inputs h)
  still_follows_each [] h = tt
  still_follows_each (input ∷ inputs) h = still_act_bind (polls_input s input h) (polls_inputs s inputs) (still_follows input h) (still_follows_each inputs)

  -- ---- steps

  still_walks : (closing : Bool) (h : History) → IsSilent (closes_and_dispatches s closing h)
  unfolding closes_and_dispatches
  still_walks closing h = still_act_if closing (bind (closes_all s h) (walk s)) (walk s h) (still_act_bind (closes_all s h) (walk s) (still_closes_all h) still_walk) (still_walk h)

  still_stops : (before : Option ℕ) (h : History) → IsSilent (stops s before h)
  unfolding stops
  still_stops before h = still_act_if (is_some before) (Return h) (closes_and_dispatches s true h) tt (still_walks true h)

  -- events other than reads
  still_ticks : (closing : Bool) (h : History) → IsSilent (ticks s closing h)
  unfolding ticks polls_all
  still_ticks closing h = still_act_bind (polls_all s h) (closes_and_dispatches s closing) (still_follows_each (range_with_len 0 (length s.inputs)) h) (still_walks closing)

  still_finishes : (before : History) (input : ℕ) (h : History) → IsSilent (at_input_end s before input h)
  unfolding at_input_end
  still_finishes before input h =
      still_act_if (reads_stdin_at s input) (bind (ingests s (end_batch s before input (Standard input)) h) (stops s (stopped s before))) (Return h)
      (still_act_bind (ingests s (end_batch s before input (Standard input)) h) (stops s (stopped s before)) (still_takes (end_batch s before input (Standard input)) h) (still_stops (stopped s before))) tt

  pub still_happens : (before : History) (brought : Happening) (h : History) → ((input : InputId) (conn : ConnId) (bytes : List ℕ) → brought ≡ happening.Piece input conn bytes → ⊥) → IsSilent (handles s before brought h)
  unfolding at_room at_reply at_break
  still_happens before (happening.Tick now) h not = still_ticks (is_close_due s before now) h
  still_happens before (happening.Joined input conn) h not = tt
  still_happens before (happening.Piece input conn bytes) h not = absurd (not input conn bytes refl)
  still_happens before (happening.Gone input conn) h not = tt
  still_happens before (happening.Room link) h not = still_resumes polls (route_on_link h link.0) h links_polls
  still_happens before (happening.Back link bytes) h not = still_resumes (λ d p. backs d bytes p) (route_on_link h link.0) h (λ d p. links_backs d bytes p)
  still_happens before (happening.Broken link) h not = still_resumes (λ d p. breaks p) (route_on_link h link.0) h (λ d p. links_breaks p)
  still_happens before (happening.InputEnd input) h not = still_finishes before input.0 h
  still_happens before happening.Stop h not = still_stops (stopped s before) h
  still_happens before happening.End h not = tt
  still_happens before happening.Failed h not = tt

  -- ---- loading

  still_finds : (number : ℕ) (reads : List FileRead) (h : History) → IsSilent (notes_files number reads h)
  still_finds number [] h = tt
  still_finds number (read ∷ reads) h = (refl, λ _. still_finds (number + 1) reads _)

  still_loads_from : (root : Option (List ℕ)) → IsSilent (loads_from root)
  still_loads_from None = tt
  still_loads_from (Some root) = still_act_disk (load_program root) loaded by
    where
      by : (reads : Option (List FileRead)) → IsSilent (loaded reads)
      by None = tt
      by (Some reads) = still_finds 1 reads []

  pub still_loads : IsSilent (recovers s)
  unfolding recovers
  still_loads = still_loads_from s.service.path
