-- A step changes no kept offset, and only its event stops a run, from any history on.
use Rattle.std.proofs.Common.{◌≡◌, ℕ, ◌+◌, Bool, true, false, cond, List, [], ◌∷◌, length, nat_lt, Option, Some, None, refl, subst}
use Rattle.std.specs.Prelude.{nat_le, is_some}
use Rattle.std.specs.List.{range_with_len}
use Rattle.fwd_base.specs.Limits.{full_chunk, numbers_end}
use Rattle.fwd_event.specs.declared.event.Event.{Event}
use Rattle.fwd_event.specs.EventPrefix.{events_in}
use Rattle.fwd_outside.specs.Program.{Return, Ask, bind, Execution}
use Rattle.fwd_outside.specs.Loop.{Word}
use Rattle.fwd_outside.specs.declared.happening.Happening.{Happening}
use Rattle.fwd_outside.specs.declared.happening.Happening.TheVariants as happening
use Rattle.fwd_table.specs.Outcomes.{may_retry}
use Rattle.fwd_table.specs.declared.outcome.Answer.{Answer as Answered}
use Rattle.fwd_table.specs.declared.outcome.Answer.TheVariants.{Good, Retry, Bad}
use Rattle.fwd_chunk.specs.declared.kept.Kept.{Kept}
use Rattle.fwd_chunk.specs.declared.kept.Kept.TheVariants.{InFile, Adopted, InMemory}
use Rattle.fwd_chunk.specs.Kept.{size_of}
use Rattle.fwd_chunk.specs.Content.{read_content_program}
use Rattle.fwd_flush.specs.declared.stage.Stage.{Stage}
use Rattle.fwd_flush.specs.declared.stage.Stage.TheVariants.{Opening, Writing, AwaitingAck, Ended}
use Rattle.fwd_flush.specs.FlushProgram.{Progress, Delivery, polls, backs, breaks}
use Rattle.fwd_in_tail.specs.Followed.{Polled as Poll, polls as polls_of}
use Rattle.fwd_wire.specs.Message.{MessageContent}
use Rattle.fwd_settings.specs.declared.settings_types.AllSettings.{AllSettings}
use Rattle.fwd_model.specs.Fact.{History, Route, FlushStarted, Stream, LineStream, MessageStream, Standard, Batch, NoChunk, TooLarge, NoNumber, Retries, OnRoute, Exhausted, Accepted, Happened, ChunkClosed}
use Rattle.fwd_model.specs.Trace.{Answer, Action, TraceEntry, OnLoop}
use Rattle.fwd_model.specs.DeviceActions.{on_loop, on_disk, on_files}
use Rattle.fwd_model.specs.Settings.{outputs_for, output_at, output_name, retries_at, paths_at, from_head_at, reads_stdin_at}
use Rattle.fwd_model.specs.Clock.{stopped, is_close_due}
use Rattle.fwd_model.specs.Streams.{stream_of, said}
use Rattle.fwd_model.specs.FollowedFiles.{file_at}
use Rattle.fwd_model.specs.Batches.{piece_batch, end_batch, poll_batch}
use Rattle.fwd_model.specs.Messages.{completed_messages, becomes_malformed, message_batch, reply_of}
use Rattle.fwd_model.specs.Chunks.{ChunkInfo, open_chunks, open_chunk, next, size, is_storable, records as records_of}
use Rattle.fwd_model.specs.ChunkStorage.{kept_of, mark_position}
use Rattle.fwd_model.specs.Routes.{owes, tries, flight, route_on_link}
use Rattle.fwd_model.specs.Limits.{evicted_at, is_paused}
use Rattle.fwd_model.specs.Dispatch.{due_routes, may_start}
use Rattle.fwd_model.specs.Notes.{note_then, note, is_empty}
use Rattle.fwd_model.specs.ResolveActions.{dropped, drops, after_mark, marks_at, records, marks_or_removes}
use Rattle.fwd_model.specs.CloseActions.{loses, closes_chunk, closes_if_full, closes_each, closes_all}
use Rattle.fwd_model.specs.Acceptance.{Acceptance, taken, ends_refused, refuses, finishes_append, finishes_create, appends, starts_chunk, stores, accepts, ingests}
use Rattle.fwd_model.specs.FlushActions.{retries, applies_answer, notes_stage, stands, notes_calls, starts_with, is_complete_read, after_read, begins_as, starts_flush, starts_if_allowed, starts_each, walk, goes_on, resumes, at_room, at_reply, at_break}
use Rattle.fwd_model.specs.InputActions.{hangs_up, after_reply, replies, acknowledges, accepts_messages, accepts_stream, pieces, polled, polls_file, polls_files, polls_input, polls_inputs, polls_all}
use Rattle.fwd_model.specs.StepActions.{closes_and_dispatches, ticks, stops, at_input_end, handles, step}
use Rattle.fwd_model.specs.KeptOffsets.{kept_at}

-- for all answers, Q holds of the result
abbrev pub Ends : {R : Type 0} → (R → Type 0) → Action R → Type 0
Ends Q (Return x) = Q x
Ends Q (Ask call go) = (answer : Answer call) → Ends Q (go answer)

ends_way : {R : Type 0} (Q : R → Type 0) (p : Action R) (es : List TraceEntry) (x : R) → Ends Q p → Execution p es (Return x) → Q x
ends_way Q (Return y) [] x ends way = let is : y ≡ x = cc way in subst Q is ends
ends_way Q (Return y) (e ∷ es) x ends way = absurd way
ends_way Q (Ask call go) [] x ends way = absurd (cc way)
ends_way Q (Ask call go) (e ∷ es) x ends way = ends_way Q (go way.0) es x (ends way.0) way.2

ends_bind : {R S : Type 0} (M : R → Type 0) (Q : S → Type 0) (p : Action R) (next : R → Action S) → Ends M p → ((x : R) → M x → Ends Q (next x)) → Ends Q (bind p next)
ends_bind M Q (Return x) next first more = more x first
ends_bind M Q (Ask call go) next first more = λ answer. ends_bind M Q (go answer) next (first answer) more

-- whatever the first action returns
ends_after : {R S : Type 0} (Q : S → Type 0) (p : Action R) (next : R → Action S) → ((x : R) → Ends Q (next x)) → Ends Q (bind p next)
ends_after Q (Return x) next more = more x
ends_after Q (Ask call go) next more = λ answer. ends_after Q (go answer) next more

ends_if : {R : Type 0} (Q : R → Type 0) (b : Bool) (p q : Action R) → Ends Q p → Ends Q q → Ends Q (cond b p q)
ends_if Q true p q first second = first
ends_if Q false p q first second = second

module _ (s : AllSettings) (first : History) where
  -- the kept offsets and the stop are those of the first history
  abbrev pub Same : History → Type 0
  Same h = ((input index : ℕ) → kept_at h input index ≡ kept_at first input index) × (stopped s h ≡ stopped s first)

  abbrev Keeps : Action History → Type 0
  Keeps p = Ends Same p

  abbrev Takes : Action Acceptance → Type 0
  Takes p = Ends (λ (a : Acceptance). Same a.history) p

  keeps_bind : (p : Action History) (next : History → Action History) → Keeps p → ((h : History) → Same h → Keeps (next h)) → Keeps (bind p next)
  keeps_bind p next one more = ends_bind Same Same p next one more

  takes_bind : (p : Action History) (next : History → Action Acceptance) → Keeps p → ((h : History) → Same h → Takes (next h)) → Takes (bind p next)
  takes_bind p next one more = ends_bind Same (λ (a : Acceptance). Same a.history) p next one more

  -- ---- resolving

  keeps_dropped : (chunk : ℕ) (h : History) (answer : Option (Unit {0})) → Same h → Keeps (dropped chunk h answer)
  keeps_dropped chunk h (Some done) same = λ _. same
  keeps_dropped chunk h None same = λ _. λ _. same

  keeps_drops : (chunk : ℕ) (h : History) → Same h → Keeps (drops s chunk h)
  unfolding drops
  keeps_drops chunk h same = ends_after Same _ (dropped chunk h) (λ answer. keeps_dropped chunk h answer same)

  keeps_marked : (r : Route) (h : History) (answer : Option Bool) → Same h → Keeps (after_mark r h answer)
  keeps_marked r h (Some done) same = λ _. same
  keeps_marked r h None same = λ _. same

  keeps_marks : (r : Route) (kept : Option Kept) (place : Option ℕ) (h : History) → Same h → Keeps (marks_at s r kept place h)
  keeps_marks r kept None h same = same
  keeps_marks r kept (Some place) h same = λ _. ends_after Same _ (after_mark r _) (λ answer. keeps_marked r _ answer same)

  keeps_settles : (r : Route) (h : History) → Same h → Keeps (marks_or_removes s r h)
  unfolding marks_or_removes records
  keeps_settles r h same =
      ends_if Same (owes s h r.chunk) (records s r h) (drops s r.chunk h) (keeps_marks r (kept_of s h r.chunk) (mark_position (output_name s r.output) (kept_of s h r.chunk)) h same) (keeps_drops r.chunk h same)

  -- ---- closing

  keeps_loses : (rs : List Route) (h : History) → Same h → Keeps (loses s rs h)
  keeps_loses [] h same = same
  keeps_loses (r ∷ rs) h same = λ _. keeps_bind (marks_or_removes s r _) (loses s rs) (keeps_settles r _ same) (keeps_loses rs)

  keeps_shuts : (chunk : ℕ) (h : History) → Same h → Keeps (closes_chunk s chunk h)
  unfolding closes_chunk
  keeps_shuts chunk h same = λ _. keeps_loses (evicted_at s (ChunkClosed chunk ∷ h) chunk) (ChunkClosed chunk ∷ h) same

  keeps_fills : (chunk : ℕ) (h : History) → Same h → Keeps (closes_if_full s chunk h)
  unfolding closes_if_full
  keeps_fills chunk h same = ends_if Same (nat_le full_chunk (size h chunk)) (closes_chunk s chunk h) (Return h) (keeps_shuts chunk h same) same

  keeps_closes : (cs : List ChunkInfo) (h : History) → Same h → Keeps (closes_each s cs h)
  keeps_closes [] h same = same
  keeps_closes (c ∷ cs) h same = keeps_bind (closes_chunk s c.number h) (closes_each s cs) (keeps_shuts c.number h same) (keeps_closes cs)

  keeps_closes_all : (h : History) → Same h → Keeps (closes_all s h)
  unfolding closes_all
  keeps_closes_all h same = keeps_closes (open_chunks h) h same

  -- ---- acceptance

  takes_appended : (b : Batch) (chunk : ℕ) (h : History) (answer : Option (Unit {0})) → Same h → Takes (finishes_append s b chunk h answer)
  takes_appended b chunk h (Some done) same = λ _. takes_bind (closes_if_full s chunk _) taken (keeps_fills chunk _ same) (λ now so. so)
  takes_appended b chunk h None same = λ _. λ _. takes_bind (closes_chunk s chunk _) ends_refused (keeps_shuts chunk _ same) (λ now so. so)

  takes_created : (b : Batch) (chunk : ℕ) (h : History) (answer : Option (Unit {0})) → Same h → Takes (finishes_create s b chunk h answer)
  takes_created b chunk h (Some done) same = λ _. takes_bind (closes_if_full s chunk _) taken (keeps_fills chunk _ same) (λ now so. so)
  takes_created b chunk h None same = λ _. λ _. same

  takes_stores : (b : Batch) (c : Option ChunkInfo) (h : History) → Same h → Takes (stores s b c h)
  unfolding appends starts_chunk
  takes_stores b (Some c) h same = λ _. ends_after (λ (a : Acceptance). Same a.history) _ (finishes_append s b c.number _) (λ answer. takes_appended b c.number _ answer same)
  takes_stores b None h same =
      ends_if (λ (a : Acceptance). Same a.history) (nat_lt (next h) numbers_end) (starts_chunk s b (next h) h) (refuses b NoNumber h)
      (λ _. ends_after (λ (a : Acceptance). Same a.history) _ (finishes_create s b (next h) _) (λ answer. takes_created b (next h) _ answer same)) (λ _. same)

  takes_accepts : (b : Batch) (h : History) → Same h → Takes (accepts s b h)
  unfolding accepts
  takes_accepts b h same =
      let Q : Acceptance → Type 0 = λ (a : Acceptance). Same a.history in
      let kept : Action Acceptance = cond (is_storable b.events) (stores s b (open_chunk h b.input b.tag) h) (refuses b TooLarge h) in
      let routed : Action Acceptance = cond (is_empty (outputs_for s b.tag)) (note_then (Accepted b NoChunk) h taken) kept in
      ends_if Q (is_empty b.events) (taken h) routed same
      (ends_if Q (is_empty (outputs_for s b.tag)) (note_then (Accepted b NoChunk) h taken) kept (λ _. same)
      (ends_if Q (is_storable b.events) (stores s b (open_chunk h b.input b.tag) h) (refuses b TooLarge h) (takes_stores b (open_chunk h b.input b.tag) h same) (λ _. same)))

  keeps_ingests : (b : Batch) (h : History) → Same h → Keeps (ingests s b h)
  unfolding ingests
  keeps_ingests b h same = ends_bind (λ (a : Acceptance). Same a.history) Same (accepts s b h) (λ (a : Acceptance). Return a.history) (takes_accepts b h same) (λ a so. so)

  -- ---- flushes

  keeps_retries : (r : Route) (h : History) → Same h → Keeps (retries s r h)
  unfolding retries
  keeps_retries r h same =
      ends_if Same (may_retry (retries_at (output_at s r.output)) (tries h r)) (Ask (OnLoop Word) (λ word. note (OnRoute r (Retries word)) h)) (note_then (OnRoute r Exhausted) h (marks_or_removes s r))
      (λ _. λ _. same) (λ _. keeps_settles r _ same)

  keeps_answer : (r : Route) (answer : Answered) (h : History) → Same h → Keeps (applies_answer s r answer h)
  keeps_answer r Good h same = λ _. keeps_settles r _ same
  keeps_answer r Retry h same = keeps_retries r h same
  keeps_answer r Bad h same = λ _. keeps_settles r _ same

  keeps_stage : (r : Route) (progress : Progress) (stage : Stage) (h : History) → Same h → Keeps (notes_stage s r progress stage h)
  keeps_stage r progress Opening h same = λ _. same
  keeps_stage r progress (Writing link) h same = λ _. same
  keeps_stage r progress (AwaitingAck link) h same = λ _. same
  keeps_stage r progress (Ended answer) h same = keeps_answer r answer h same

  keeps_calls : (r : Route) (before : ℕ) (progress : Progress) (h : History) → Same h → Keeps (notes_calls s r before progress h)
  unfolding notes_calls stands
  keeps_calls r before progress h same = λ _. keeps_stage r progress progress.stage _ same

  keeps_starts_with : (r : Route) (events : List Event) (h : History) → Same h → Keeps (starts_with s r events h)
  unfolding starts_with
  keeps_starts_with r events h same = let at : History = OnRoute r (FlushStarted events) ∷ h in λ _. ends_after Same _ (λ progress. notes_calls s r 0 progress at) (λ progress. keeps_calls r 0 progress at same)

  keeps_read : (r : Route) (kept : ℕ) (h : History) (bytes : Option (List ℕ)) → Same h → Keeps (after_read s r kept h bytes)
  keeps_read r kept h None same = λ _. same
  keeps_read r kept h (Some bytes) same = ends_if Same (is_complete_read kept bytes) (starts_with s r (events_in bytes).0 h) (Return h) (keeps_starts_with r (events_in bytes).0 h same) same

  keeps_begins : (r : Route) (kept : Option Kept) (h : History) → Same h → Keeps (begins_as s r kept h)
  keeps_begins r None h same = same
  keeps_begins r (Some (InMemory content)) h same = keeps_starts_with r (records_of h r.chunk) h same
  keeps_begins r (Some (InFile head)) h same = ends_after Same (on_disk (read_content_program (InFile head))) (after_read s r (size_of (InFile head)) h) (λ bytes. keeps_read r (size_of (InFile head)) h bytes same)
  keeps_begins r (Some (Adopted head)) h same = ends_after Same (on_disk (read_content_program (Adopted head))) (after_read s r (size_of (Adopted head)) h) (λ bytes. keeps_read r (size_of (Adopted head)) h bytes same)

  keeps_turn : (r : Route) (h : History) → Same h → Keeps (starts_if_allowed s r h)
  unfolding starts_if_allowed starts_flush
  keeps_turn r h same = ends_if Same (may_start s h r) (starts_flush s r h) (Return h) (keeps_begins r (kept_of s h r.chunk) h same) same

  keeps_turns : (rs : List Route) (h : History) → Same h → Keeps (starts_each s rs h)
  keeps_turns [] h same = same
  keeps_turns (r ∷ rs) h same = keeps_bind (starts_if_allowed s r h) (starts_each s rs) (keeps_turn r h same) (keeps_turns rs)

  keeps_walk : (h : History) → Same h → Keeps (walk s h)
  unfolding walk
  keeps_walk h same = keeps_turns (due_routes s h) h same

  keeps_goes_on : (go : Delivery → Progress → Action Progress) (r : Route) (at : Option Progress) (h : History) → Same h → Keeps (goes_on s go r at h)
  keeps_goes_on go r None h same = same
  keeps_goes_on go r (Some progress) h same = ends_after Same _ (λ now. notes_calls s r progress.taken now h) (λ now. keeps_calls r progress.taken now h same)

  keeps_resumes : (go : Delivery → Progress → Action Progress) (r : Option Route) (h : History) → Same h → Keeps (resumes s go r h)
  keeps_resumes go None h same = same
  keeps_resumes go (Some r) h same = keeps_goes_on go r (flight h r) h same

  -- ---- input

  keeps_hangs_up : (conn : ℕ) (h : History) → Same h → Keeps (hangs_up conn h)
  unfolding hangs_up
  keeps_hangs_up conn h same = λ _. λ _. same

  keeps_replied : (conn : ℕ) (next : History → Action History) (h : History) (answer : Option (Unit {0})) → ((at : History) → Same at → Keeps (next at)) → Same h → Keeps (after_reply conn next h answer)
  keeps_replied conn next h (Some done) more same = more h same
  keeps_replied conn next h None more same = keeps_hangs_up conn h same

  keeps_replies : (conn : ℕ) (asked : Option (List ℕ)) (next : History → Action History) (h : History) → ((at : History) → Same at → Keeps (next at)) → Same h → Keeps (replies conn asked next h)
  keeps_replies conn None next h more same = more h same
  keeps_replies conn (Some bytes) next h more same = λ answer. keeps_replied conn next h answer more same

  keeps_acknowledges : (conn : ℕ) (asked : Option (List ℕ)) (next : History → Action History) (a : Acceptance) → ((at : History) → Same at → Keeps (next at)) → Same a.history → Keeps (acknowledges conn asked next a)
  keeps_acknowledges conn asked next a more same =
      ends_if Same a.taken (replies conn asked next a.history) (hangs_up conn a.history) (keeps_replies conn asked next a.history more same) (keeps_hangs_up conn a.history same)

  keeps_messages : (input conn : ℕ) (breaks : Bool) (ms : List MessageContent) (h : History) → Same h → Keeps (accepts_messages s input conn breaks ms h)
  keeps_messages input conn false [] h same = same
  keeps_messages input conn true [] h same = λ _. keeps_hangs_up conn _ same
  keeps_messages input conn breaks (m ∷ ms) h same =
      ends_bind (λ (a : Acceptance). Same a.history) Same (accepts s (message_batch s input m) h) (acknowledges conn (reply_of m) (accepts_messages s input conn breaks ms)) (takes_accepts (message_batch s input m) h same)
      (λ a so. keeps_acknowledges conn (reply_of m) (accepts_messages s input conn breaks ms) a (keeps_messages input conn breaks ms) so)

  keeps_stream : (before : History) (input : ℕ) (bytes : List ℕ) (stream : Option Stream) (h : History) → Same h → Keeps (accepts_stream s before input bytes stream h)
  keeps_stream before input bytes None h same = same
  keeps_stream before input bytes (Some (LineStream conn)) h same = keeps_ingests (piece_batch s before input (LineStream conn) bytes) h same
  keeps_stream before input bytes (Some (MessageStream conn)) h same =
      keeps_messages input conn (becomes_malformed (said s before (MessageStream conn)) bytes) (completed_messages (said s before (MessageStream conn)) bytes) h same
  keeps_stream before input bytes (Some (Standard reader)) h same = keeps_ingests (piece_batch s before input (Standard reader) bytes) h same

  keeps_polled : (input index : ℕ) (h : History) (poll : Option Poll) → Same h → Keeps (polled s input index h poll)
  keeps_polled input index h None same = λ _. same
  keeps_polled input index h (Some poll) same = λ _. keeps_ingests (poll_batch s h input index poll) _ same

  keeps_polls_file : (input index : ℕ) (path : List ℕ) (h : History) → Same h → Keeps (polls_file s input index path h)
  unfolding polls_file
  keeps_polls_file input index path h same = ends_after Same (on_files (polls_of path (from_head_at s input) (file_at s h input index).place)) (polled s input index h) (λ poll. keeps_polled input index h poll same)

  keeps_polls_files : (input index : ℕ) (paths : List (List ℕ)) (h : History) → Same h → Keeps (polls_files s input index paths h)
  keeps_polls_files input index [] h same = same
  keeps_polls_files input index (path ∷ paths) h same =
      keeps_bind (polls_file s input index path h) (polls_files s input (index + 1) paths) (keeps_polls_file input index path h same) (keeps_polls_files input (index + 1) paths)

  keeps_polls_input : (input : ℕ) (h : History) → Same h → Keeps (polls_input s input h)
  unfolding polls_input
  keeps_polls_input input h same = ends_if Same (is_paused s h input) (Return h) (polls_files s input 0 (paths_at s input) h) same (keeps_polls_files input 0 (paths_at s input) h same)

  keeps_polls_inputs : (inputs : List ℕ) (h : History) → Same h → Keeps (polls_inputs s inputs h)
  keeps_polls_inputs [] h same = same
  keeps_polls_inputs (input ∷ inputs) h same = keeps_bind (polls_input s input h) (polls_inputs s inputs) (keeps_polls_input input h same) (keeps_polls_inputs inputs)

  -- ---- steps

  keeps_dispatch : (closing : Bool) (h : History) → Same h → Keeps (closes_and_dispatches s closing h)
  unfolding closes_and_dispatches
  keeps_dispatch closing h same = ends_if Same closing (bind (closes_all s h) (walk s)) (walk s h) (keeps_bind (closes_all s h) (walk s) (keeps_closes_all h same) keeps_walk) (keeps_walk h same)

  keeps_stops : (before : Option ℕ) (h : History) → Same h → Keeps (stops s before h)
  unfolding stops
  keeps_stops before h same = ends_if Same (is_some before) (Return h) (closes_and_dispatches s true h) same (keeps_dispatch true h same)

  keeps_handles : (before : History) (brought : Happening) (h : History) → Same h → Keeps (handles s before brought h)
  unfolding ticks polls_all pieces at_room at_reply at_break at_input_end
  keeps_handles before (happening.Tick now) h same =
      keeps_bind (polls_all s h) (closes_and_dispatches s (is_close_due s before now)) (keeps_polls_inputs (range_with_len 0 (length s.inputs)) h same) (keeps_dispatch (is_close_due s before now))
  keeps_handles before (happening.Joined input conn) h same = same
  keeps_handles before (happening.Piece input conn bytes) h same = keeps_stream before input.0 bytes (stream_of s before input.0 conn.0) h same
  keeps_handles before (happening.Gone input conn) h same = same
  keeps_handles before (happening.Room link) h same = keeps_resumes (λ d p. on_loop (polls d p)) (route_on_link h link.0) h same
  keeps_handles before (happening.Back link bytes) h same = keeps_resumes (λ d p. on_loop (backs d bytes p)) (route_on_link h link.0) h same
  keeps_handles before (happening.Broken link) h same = keeps_resumes (λ d p. on_loop (breaks p)) (route_on_link h link.0) h same
  keeps_handles before (happening.InputEnd input) h same =
      ends_if Same (reads_stdin_at s input.0) (bind (ingests s (end_batch s before input.0 (Standard input.0)) h) (stops s (stopped s before))) (Return h)
      (keeps_bind (ingests s (end_batch s before input.0 (Standard input.0)) h) (stops s (stopped s before)) (keeps_ingests (end_batch s before input.0 (Standard input.0)) h same) (keeps_stops (stopped s before))) same
  keeps_handles before happening.Stop h same = keeps_stops (stopped s before) h same
  keeps_handles before happening.End h same = same
  keeps_handles before happening.Failed h same = same

  keeps_step : (x : Happening) (h : History) → Same (Happened x ∷ h) → Keeps (step s x h)
  unfolding step
  keeps_step x h same = λ _. keeps_handles h x (Happened x ∷ h) same

-- a step, by the history that has its event
pub step_keeps : (s : AllSettings) (x : Happening) (h : History) → Ends (Same s (Happened x ∷ h)) (step s x h)
step_keeps s x h = keeps_step s (Happened x ∷ h) x h (λ input index. refl, refl)

pub step_keeps_offsets : (s : AllSettings) (x : Happening) (h now : History) (es : List TraceEntry) → Execution (step s x h) es (Return now) → (input index : ℕ) → kept_at now input index ≡ kept_at h input index
step_keeps_offsets s x h now es way = (ends_way (Same s (Happened x ∷ h)) (step s x h) es now (step_keeps s x h) way).0
