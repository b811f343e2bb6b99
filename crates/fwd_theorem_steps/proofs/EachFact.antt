-- What holds of a history holds after each action, if each fact that resolves no route keeps it, and if it holds again
-- after what follows a fact that does.
use Rattle.std.proofs.Common.{◌≡◌, ℕ, ◌+◌, ◌-◌, nat_le, nat_lt, Bool, true, false, cond, List, [], ◌∷◌, length, Option, Some, None, refl}
use Rattle.std.specs.List.{range_with_len}
use Rattle.fwd_base.specs.Limits.{full_chunk, numbers_end}
use Rattle.fwd_event.specs.declared.event.Event.{Event}
use Rattle.fwd_event.specs.EventPrefix.{events_in}
use Rattle.fwd_in_tail.specs.Followed.{Polled as Poll, polls as polls_of}
use Rattle.fwd_outside.specs.Program.{Return, Ask, bind}
use Rattle.fwd_outside.specs.Loop.{Word}
use Rattle.fwd_outside.specs.declared.happening.Happening.{Happening}
use Rattle.fwd_outside.specs.declared.happening.Happening.TheVariants as happening
use Rattle.fwd_table.specs.Outcomes.{may_retry}
use Rattle.fwd_table.specs.declared.outcome.Answer.{Answer}
use Rattle.fwd_table.specs.declared.outcome.Answer.TheVariants.{Good, Retry, Bad}
use Rattle.fwd_flush.specs.declared.stage.Stage.{Stage}
use Rattle.fwd_flush.specs.declared.stage.Stage.TheVariants.{Opening, Writing, AwaitingAck, Ended}
use Rattle.fwd_flush.specs.FlushProgram.{Progress, Delivery, not_started, starts, polls, backs, breaks}
use Rattle.fwd_chunk.specs.declared.kept.Kept.{Kept}
use Rattle.fwd_chunk.specs.declared.kept.Kept.TheVariants.{InFile, Adopted, InMemory}
use Rattle.fwd_chunk.specs.Kept.{size_of}
use Rattle.fwd_chunk.specs.Content.{read_content_program}
use Rattle.fwd_store.specs.Store.{begins_as as places, append_to_program}
use Rattle.fwd_wire.specs.Message.{MessageContent}
use Rattle.fwd_settings.specs.declared.settings_types.AllSettings.{AllSettings}
use Rattle.fwd_model.specs.Fact.{Fact, History, Stream, LineStream, MessageStream, Standard, Batch, NoChunk, NewChunk, AppendedTo, Reason, TooLarge, NoNumber, NotStored, Route, Outcome, FlushStarted, InFlight, Retries, Delivered, Failed, Exhausted, Evicted, Happened, Polled, Disconnected, Malformed, Offered, Accepted, Refused, ChunkClosed, Sent, OnRoute, IoFailed}
use Rattle.fwd_model.specs.Trace.{Action, OnLoop}
use Rattle.fwd_model.specs.DeviceActions.{on_loop, on_disk, on_files}
use Rattle.fwd_model.specs.Settings.{output_at, outputs_for, retries_at, home_at, names_for, paths_at, from_head_at, reads_stdin_at}
use Rattle.fwd_model.specs.Clock.{stopped, is_close_due}
use Rattle.fwd_model.specs.Streams.{stream_of, said}
use Rattle.fwd_model.specs.FollowedFiles.{file_at}
use Rattle.fwd_model.specs.Batches.{piece_batch, end_batch, poll_batch}
use Rattle.fwd_model.specs.Messages.{completed_messages, becomes_malformed, message_batch, reply_of}
use Rattle.fwd_model.specs.Chunks.{ChunkInfo, next, open_chunks, open_chunk, size, encoded, is_storable, records as records_of}
use Rattle.fwd_model.specs.ChunkStorage.{kept_of, name_for}
use Rattle.fwd_model.specs.Routes.{tries, flight, route_on_link, resolves}
use Rattle.fwd_model.specs.Payloads.{delivery, tag_of_chunk}
use Rattle.fwd_model.specs.Limits.{evicted_at, is_paused}
use Rattle.fwd_model.specs.Dispatch.{due_routes, may_start}
use Rattle.fwd_model.specs.Notes.{note_then, note, is_empty}
use Rattle.fwd_model.specs.ResolveActions.{marks_or_removes}
use Rattle.fwd_model.specs.CloseActions.{loses, closes_chunk, closes_if_full, closes_each, closes_all}
use Rattle.fwd_model.specs.Acceptance.{Acceptance, taken, refuses, finishes_append, finishes_create, appends, starts_chunk, stores, accepts, ingests}
use Rattle.fwd_model.specs.FlushActions.{retries, applies_answer, notes_stage, stands, notes_calls, starts_with, is_complete_read, after_read, begins_as, starts_flush, starts_if_allowed, starts_each, walk, goes_on, resumes, at_room, at_reply, at_break}
use Rattle.fwd_model.specs.InputActions.{hangs_up, after_reply, replies, acknowledges, accepts_messages, accepts_stream, pieces, polled, polls_file, polls_files, polls_input, polls_inputs, polls_all}
use Rattle.fwd_model.specs.StepActions.{closes_and_dispatches, ticks, stops, at_input_end, handles, step}
use Rattle.fwd_theorem_delivery.proofs.Results.{Yields, gives_then, gives_behind, gives_if}

-- whether a fact resolves a route
abbrev pub is_resolution : Fact → Bool
is_resolution (OnRoute r outcome) = resolves outcome
is_resolution fact = false

pub record Keeps (s : AllSettings) (Each : History → Type 0) : Type 0 where
  pub plain : (fact : Fact) (h : History) → is_resolution fact ≡ false → Each h → Each (fact ∷ h)
  pub resolved : (r : Route) (outcome : Outcome) (h : History) → resolves outcome ≡ true → Each h → Yields Each (marks_or_removes s r (OnRoute r outcome ∷ h))

module _ (s : AllSettings) (Each : History → Type 0) (keeps : Keeps s Each) where
  abbrev Ends : Action History → Type 0
  Ends p = Yields Each p

  one : (fact : Fact) (h : History) → is_resolution fact ≡ false → Each h → Ends (note fact h)
  one fact h plain each = λ _. keeps.plain fact h plain each

  -- ---- closing

  each_loses : (rs : List Route) (h : History) → Each h → Ends (loses s rs h)
  each_loses [] h each = each
  each_loses (r ∷ rs) h each = λ _. gives_then Each Each (marks_or_removes s r (OnRoute r Evicted ∷ h)) (loses s rs) (keeps.resolved r Evicted h refl each) (each_loses rs)

  each_shuts : (chunk : ℕ) (h : History) → Each h → Ends (closes_chunk s chunk h)
  unfolding closes_chunk
  each_shuts chunk h each = λ _. each_loses (evicted_at s (ChunkClosed chunk ∷ h) chunk) (ChunkClosed chunk ∷ h) (keeps.plain (ChunkClosed chunk) h refl each)

  each_fills : (chunk : ℕ) (h : History) → Each h → Ends (closes_if_full s chunk h)
  unfolding closes_if_full
  each_fills chunk h each = gives_if Each (nat_le full_chunk (size h chunk)) (closes_chunk s chunk h) (Return h) (λ _. each_shuts chunk h each) (λ _. each)

  each_closes : (cs : List ChunkInfo) (h : History) → Each h → Ends (closes_each s cs h)
  each_closes [] h each = each
  each_closes (c ∷ cs) h each = gives_then Each Each (closes_chunk s c.number h) (closes_each s cs) (each_shuts c.number h each) (each_closes cs)

  each_closes_all : (h : History) → Each h → Ends (closes_all s h)
  unfolding closes_all
  each_closes_all h each = each_closes (open_chunks h) h each

  -- ---- flushes

  each_retries : (r : Route) (h : History) → Each h → Ends (retries s r h)
  unfolding retries
  each_retries r h each =
      gives_if Each (may_retry (retries_at (output_at s r.output)) (tries h r)) (Ask (OnLoop Word) (λ word. note (OnRoute r (Retries word)) h)) (note_then (OnRoute r Exhausted) h (marks_or_removes s r))
      (λ _ word. one (OnRoute r (Retries word)) h refl each) (λ _ _. keeps.resolved r Exhausted h refl each)

  each_answers_by : (r : Route) (answer : Answer) (h : History) → Each h → Ends (applies_answer s r answer h)
  each_answers_by r Good h each = λ _. keeps.resolved r Delivered h refl each
  each_answers_by r Retry h each = each_retries r h each
  each_answers_by r Bad h each = λ _. keeps.resolved r Failed h refl each

  each_stands_in : (r : Route) (progress : Progress) (stage : Stage) (h : History) → Each h → Ends (notes_stage s r progress stage h)
  each_stands_in r progress Opening h each = one (OnRoute r (InFlight progress)) h refl each
  each_stands_in r progress (Writing link) h each = one (OnRoute r (InFlight progress)) h refl each
  each_stands_in r progress (AwaitingAck link) h each = one (OnRoute r (InFlight progress)) h refl each
  each_stands_in r progress (Ended answer) h each = each_answers_by r answer h each

  each_stands : (r : Route) (progress : Progress) (h : History) → Each h → Ends (stands s r progress h)
  unfolding stands
  each_stands r progress h each = each_stands_in r progress progress.stage h each

  each_lands : (r : Route) (before : ℕ) (progress : Progress) (h : History) → Each h → Ends (notes_calls s r before progress h)
  unfolding notes_calls
  each_lands r before progress h each =
      let sent : Fact = Sent r.output (progress.taken - before) in λ _. each_stands r progress (sent ∷ h) (keeps.plain sent h refl each)

  each_begins_with : (r : Route) (events : List Event) (h : History) → Each h → Ends (starts_with s r events h)
  unfolding starts_with
  each_begins_with r events h each =
      let at : History = OnRoute r (FlushStarted events) ∷ h in
      λ _. gives_behind Each (on_loop (starts (delivery s at r) r.output (tag_of_chunk at r.chunk) not_started)) (λ progress. notes_calls s r 0 progress at)
      (λ progress. each_lands r 0 progress at (keeps.plain (OnRoute r (FlushStarted events)) h refl each))

  each_read_behind : (r : Route) (kept : ℕ) (h : History) (bytes : Option (List ℕ)) → Each h → Ends (after_read s r kept h bytes)
  each_read_behind r kept h None each = one IoFailed h refl each
  each_read_behind r kept h (Some bytes) each =
      gives_if Each (is_complete_read kept bytes) (starts_with s r (events_in bytes).0 h) (Return h) (λ _. each_begins_with r (events_in bytes).0 h each) (λ _. each)

  each_begins_as : (r : Route) (kept : Option Kept) (h : History) → Each h → Ends (begins_as s r kept h)
  each_begins_as r None h each = each
  each_begins_as r (Some (InMemory content)) h each = each_begins_with r (records_of h r.chunk) h each
  each_begins_as r (Some (InFile head)) h each =
      gives_behind Each (on_disk (read_content_program (InFile head))) (after_read s r (size_of (InFile head)) h) (λ bytes. each_read_behind r (size_of (InFile head)) h bytes each)
  each_begins_as r (Some (Adopted head)) h each =
      gives_behind Each (on_disk (read_content_program (Adopted head))) (after_read s r (size_of (Adopted head)) h) (λ bytes. each_read_behind r (size_of (Adopted head)) h bytes each)

  each_begins : (r : Route) (h : History) → Each h → Ends (starts_flush s r h)
  unfolding starts_flush
  each_begins r h each = each_begins_as r (kept_of s h r.chunk) h each

  each_turn : (r : Route) (h : History) → Each h → Ends (starts_if_allowed s r h)
  unfolding starts_if_allowed
  each_turn r h each = gives_if Each (may_start s h r) (starts_flush s r h) (Return h) (λ _. each_begins r h each) (λ _. each)

  each_turns : (rs : List Route) (h : History) → Each h → Ends (starts_each s rs h)
  each_turns [] h each = each
  each_turns (r ∷ rs) h each = gives_then Each Each (starts_if_allowed s r h) (starts_each s rs) (each_turn r h each) (each_turns rs)

  each_walk : (h : History) → Each h → Ends (walk s h)
  unfolding walk
  each_walk h each = each_turns (due_routes s h) h each

  each_goes_on : (go : Delivery → Progress → Action Progress) (r : Route) (at : Option Progress) (h : History) → Each h → Ends (goes_on s go r at h)
  each_goes_on go r None h each = each
  each_goes_on go r (Some progress) h each = gives_behind Each (go (delivery s h r) progress) (λ now. notes_calls s r progress.taken now h) (λ now. each_lands r progress.taken now h each)

  each_resumes : (go : Delivery → Progress → Action Progress) (r : Option Route) (h : History) → Each h → Ends (resumes s go r h)
  each_resumes go None h each = each
  each_resumes go (Some r) h each = each_goes_on go r (flight h r) h each

  each_has_room : (link : ℕ) (h : History) → Each h → Ends (at_room s link h)
  unfolding at_room
  each_has_room link h each = each_resumes (λ d p. on_loop (polls d p)) (route_on_link h link) h each

  each_comes_back : (link : ℕ) (bytes : List ℕ) (h : History) → Each h → Ends (at_reply s link bytes h)
  unfolding at_reply
  each_comes_back link bytes h each = each_resumes (λ d p. on_loop (backs d bytes p)) (route_on_link h link) h each

  each_has_broken : (link : ℕ) (h : History) → Each h → Ends (at_break s link h)
  unfolding at_break
  each_has_broken link h each = each_resumes (λ d p. on_loop (breaks p)) (route_on_link h link) h each

  -- ---- acceptance

  abbrev EachTaken : Acceptance → Type 0
  EachTaken a = Each a.history

  abbrev Takes : Action Acceptance → Type 0
  Takes p = Yields EachTaken p

  takes_after : (taken_it : Bool) (p : Action History) → Ends p → Takes (bind p (λ (h : History). Return (record { history = h; taken = taken_it })))
  takes_after taken_it p ends = gives_then Each EachTaken p (λ (h : History). Return (record { history = h; taken = taken_it })) ends (λ h each. each)

  takes_refused : (b : Batch) (why : Reason) (h : History) → Each h → Takes (refuses b why h)
  takes_refused b why h each = λ _. keeps.plain (Refused b why) h refl each

  takes_appended : (b : Batch) (chunk : ℕ) (h : History) (answer : Option (Unit {0})) → Each h → Takes (finishes_append s b chunk h answer)
  takes_appended b chunk h (Some done) each =
      let at : History = Accepted b (AppendedTo chunk) ∷ h in
      λ _. takes_after true (closes_if_full s chunk at) (each_fills chunk at (keeps.plain (Accepted b (AppendedTo chunk)) h refl each))
  takes_appended b chunk h None each =
      let at : History = Refused b NotStored ∷ IoFailed ∷ h in
      λ _ _. takes_after false (closes_chunk s chunk at) (each_shuts chunk at (keeps.plain (Refused b NotStored) (IoFailed ∷ h) refl (keeps.plain IoFailed h refl each)))

  takes_created : (b : Batch) (chunk : ℕ) (h : History) (answer : Option (Unit {0})) → Each h → Takes (finishes_create s b chunk h answer)
  takes_created b chunk h (Some done) each =
      let at : History = Accepted b (NewChunk chunk) ∷ h in
      λ _. takes_after true (closes_if_full s chunk at) (each_fills chunk at (keeps.plain (Accepted b (NewChunk chunk)) h refl each))
  takes_created b chunk h None each = λ _. takes_refused b NotStored (IoFailed ∷ h) (keeps.plain IoFailed h refl each)

  takes_appends : (b : Batch) (chunk : ℕ) (h : History) → Each h → Takes (appends s b chunk h)
  unfolding appends
  takes_appends b chunk h each =
      let at : History = Offered chunk b ∷ h in
      λ _. gives_behind EachTaken (on_disk (append_to_program (kept_of s h chunk) (encoded b.events) s.service.full)) (finishes_append s b chunk at) (λ answer. takes_appended b chunk at answer (keeps.plain (Offered chunk b) h refl each))

  takes_starts : (b : Batch) (chunk : ℕ) (h : History) → Each h → Takes (starts_chunk s b chunk h)
  unfolding starts_chunk
  takes_starts b chunk h each =
      let at : History = Offered chunk b ∷ h in
      λ _. gives_behind EachTaken (on_disk (places (name_for s b.input chunk) b.tag (home_at s b.input) (encoded b.events) (names_for s b.tag))) (finishes_create s b chunk at)
      (λ answer. takes_created b chunk at answer (keeps.plain (Offered chunk b) h refl each))

  takes_stores : (b : Batch) (c : Option ChunkInfo) (h : History) → Each h → Takes (stores s b c h)
  takes_stores b (Some c) h each = takes_appends b c.number h each
  takes_stores b None h each = gives_if EachTaken (nat_lt (next h) numbers_end) (starts_chunk s b (next h) h) (refuses b NoNumber h) (λ _. takes_starts b (next h) h each) (λ _. takes_refused b NoNumber h each)

  takes_accepts : (b : Batch) (h : History) → Each h → Takes (accepts s b h)
  unfolding accepts
  takes_accepts b h each =
      let kept : Action Acceptance = cond (is_storable b.events) (stores s b (open_chunk h b.input b.tag) h) (refuses b TooLarge h) in
      let routed : Action Acceptance = cond (is_empty (outputs_for s b.tag)) (note_then (Accepted b NoChunk) h taken) kept in
      gives_if EachTaken (is_empty b.events) (taken h) routed (λ _. each)
      (λ _. gives_if EachTaken (is_empty (outputs_for s b.tag)) (note_then (Accepted b NoChunk) h taken) kept (λ _ _. keeps.plain (Accepted b NoChunk) h refl each)
      (λ _. gives_if EachTaken (is_storable b.events) (stores s b (open_chunk h b.input b.tag) h) (refuses b TooLarge h) (λ _. takes_stores b (open_chunk h b.input b.tag) h each) (λ _. takes_refused b TooLarge h each)))

  each_ingests : (b : Batch) (h : History) → Each h → Ends (ingests s b h)
  unfolding ingests
  each_ingests b h each = gives_then EachTaken Each (accepts s b h) (λ (a : Acceptance). Return a.history) (takes_accepts b h each) (λ a taken_it. taken_it)

  -- ---- input

  each_hangs_up : (conn : ℕ) (h : History) → Each h → Ends (hangs_up conn h)
  unfolding hangs_up
  each_hangs_up conn h each = λ _. one (Disconnected conn) h refl each

  abbrev EachNext : (History → Action History) → Type 0
  EachNext next = (h : History) → Each h → Ends (next h)

  each_replied : (conn : ℕ) (next : History → Action History) (h : History) (answer : Option (Unit {0})) → EachNext next → Each h → Ends (after_reply conn next h answer)
  each_replied conn next h (Some done) more each = more h each
  each_replied conn next h None more each = each_hangs_up conn h each

  each_replies : (conn : ℕ) (asked : Option (List ℕ)) (next : History → Action History) (h : History) → EachNext next → Each h → Ends (replies conn asked next h)
  each_replies conn None next h more each = more h each
  each_replies conn (Some bytes) next h more each = λ answer. each_replied conn next h answer more each

  each_acknowledges : (conn : ℕ) (asked : Option (List ℕ)) (next : History → Action History) (a : Acceptance) → EachNext next → Each a.history → Ends (acknowledges conn asked next a)
  each_acknowledges conn asked next a more each =
      gives_if Each a.taken (replies conn asked next a.history) (hangs_up conn a.history) (λ _. each_replies conn asked next a.history more each) (λ _. each_hangs_up conn a.history each)

  each_messages : (input conn : ℕ) (breaks_it : Bool) (ms : List MessageContent) (h : History) → Each h → Ends (accepts_messages s input conn breaks_it ms h)
  each_messages input conn false [] h each = each
  each_messages input conn true [] h each = λ _. each_hangs_up conn (Malformed input ∷ h) (keeps.plain (Malformed input) h refl each)
  each_messages input conn breaks_it (m ∷ ms) h each =
      let next : History → Action History = accepts_messages s input conn breaks_it ms in
      gives_then EachTaken Each (accepts s (message_batch s input m) h) (acknowledges conn (reply_of m) next) (takes_accepts (message_batch s input m) h each)
      (λ a taken_it. each_acknowledges conn (reply_of m) next a (each_messages input conn breaks_it ms) taken_it)

  each_stream : (before : History) (input : ℕ) (bytes : List ℕ) (stream : Option Stream) (h : History) → Each h → Ends (accepts_stream s before input bytes stream h)
  each_stream before input bytes None h each = each
  each_stream before input bytes (Some (LineStream conn)) h each = each_ingests (piece_batch s before input (LineStream conn) bytes) h each
  each_stream before input bytes (Some (MessageStream conn)) h each =
      let said_before = said s before (MessageStream conn) in
      each_messages input conn (becomes_malformed said_before bytes) (completed_messages said_before bytes) h each
  each_stream before input bytes (Some (Standard reader)) h each = each_ingests (piece_batch s before input (Standard reader) bytes) h each

  each_pieces : (before : History) (input conn : ℕ) (bytes : List ℕ) (h : History) → Each h → Ends (pieces s before input conn bytes h)
  unfolding pieces
  each_pieces before input conn bytes h each = each_stream before input bytes (stream_of s before input conn) h each

  each_polled : (input index : ℕ) (h : History) (poll : Option Poll) → Each h → Ends (polled s input index h poll)
  each_polled input index h None each = one IoFailed h refl each
  each_polled input index h (Some poll) each =
      let fact : Fact = Polled input index poll.long poll.bytes in λ _. each_ingests (poll_batch s h input index poll) (fact ∷ h) (keeps.plain fact h refl each)

  each_polls_file : (input index : ℕ) (path : List ℕ) (h : History) → Each h → Ends (polls_file s input index path h)
  unfolding polls_file
  each_polls_file input index path h each = gives_behind Each (on_files (polls_of path (from_head_at s input) (file_at s h input index).place)) (polled s input index h) (λ poll. each_polled input index h poll each)

  each_polls_files : (input index : ℕ) (paths : List (List ℕ)) (h : History) → Each h → Ends (polls_files s input index paths h)
  each_polls_files input index [] h each = each
  each_polls_files input index (path ∷ paths) h each =
      gives_then Each Each (polls_file s input index path h) (polls_files s input (index + 1) paths) (each_polls_file input index path h each) (each_polls_files input (index + 1) paths)

  each_follows : (input : ℕ) (h : History) → Each h → Ends (polls_input s input h)
  unfolding polls_input
  each_follows input h each = gives_if Each (is_paused s h input) (Return h) (polls_files s input 0 (paths_at s input) h) (λ _. each) (λ _. each_polls_files input 0 (paths_at s input) h each)

  each_follows_each : (inputs : List ℕ) (h : History) → Each h → Ends (polls_inputs s inputs h)
  each_follows_each [] h each = each
  each_follows_each (input ∷ inputs) h each = gives_then Each Each (polls_input s input h) (polls_inputs s inputs) (each_follows input h each) (each_follows_each inputs)

  -- ---- steps

  each_walks : (closing : Bool) (h : History) → Each h → Ends (closes_and_dispatches s closing h)
  unfolding closes_and_dispatches
  each_walks true h each = gives_then Each Each (closes_all s h) (walk s) (each_closes_all h each) each_walk
  each_walks false h each = each_walk h each

  each_ticks : (closing : Bool) (h : History) → Each h → Ends (ticks s closing h)
  unfolding ticks polls_all
  each_ticks closing h each = gives_then Each Each (polls_all s h) (closes_and_dispatches s closing) (each_follows_each (range_with_len 0 (length s.inputs)) h each) (each_walks closing)

  each_stops : (before : Option ℕ) (h : History) → Each h → Ends (stops s before h)
  unfolding stops
  each_stops (Some at) h each = each
  each_stops None h each = each_walks true h each

  each_finishes : (before : History) (input : ℕ) (h : History) → Each h → Ends (at_input_end s before input h)
  unfolding at_input_end
  each_finishes before input h each =
      let last : Batch = end_batch s before input (Standard input) in
      gives_if Each (reads_stdin_at s input) (bind (ingests s last h) (stops s (stopped s before))) (Return h)
      (λ _. gives_then Each Each (ingests s last h) (stops s (stopped s before)) (each_ingests last h each) (each_stops (stopped s before))) (λ _. each)

  each_happens : (before : History) (x : Happening) (h : History) → Each h → Ends (handles s before x h)
  each_happens before (happening.Tick now) h each = each_ticks (is_close_due s before now) h each
  each_happens before (happening.Joined input conn) h each = each
  each_happens before (happening.Piece input conn bytes) h each = each_pieces before input.0 conn.0 bytes h each
  each_happens before (happening.Gone input conn) h each = each
  each_happens before (happening.Room link) h each = each_has_room link.0 h each
  each_happens before (happening.Back link bytes) h each = each_comes_back link.0 bytes h each
  each_happens before (happening.Broken link) h each = each_has_broken link.0 h each
  each_happens before (happening.InputEnd input) h each = each_finishes before input.0 h each
  each_happens before happening.Stop h each = each_stops (stopped s before) h each
  each_happens before happening.End h each = each
  each_happens before happening.Failed h each = each

  pub each_step : (x : Happening) (h : History) → Each h → Ends (step s x h)
  unfolding step
  each_step x h each = λ _. each_happens h x (Happened x ∷ h) (keeps.plain (Happened x) h refl each)
