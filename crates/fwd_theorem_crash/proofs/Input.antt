-- Traversal of acceptance and of input.
use Rattle.std.proofs.Common.{◌≡◌, ℕ, ◌+◌, nat_lt, Bool, true, false, cond, List, [], ◌∷◌, length, Option, Some, None, refl, sym, subst}
use Rattle.std.specs.Prelude.{Contains}
use Rattle.std.proofs.lemmas.Bool.{leb-true}
use Rattle.std.specs.List.{range_with_len}
use Rattle.fwd_base.specs.Limits.{largest_batch, numbers_end}
use Rattle.fwd_outside.specs.Program.{Return, bind}
use Rattle.fwd_outside.proofs.CrashPointLemmas.{holds_bind}
use Rattle.fwd_outside.specs.Loop.{Reply, DropConn}
use Rattle.fwd_outside.specs.Files.{FilesProgram}
use Rattle.fwd_outside.specs.declared.happening.Happening.{Happening}
use Rattle.fwd_outside.specs.declared.happening.Happening.TheVariants as happening
use Rattle.fwd_in_tail.specs.Followed.{Polled as Poll, polls as polls_of, completed}
use Rattle.fwd_frames.specs.Lines.{last_line}
use Rattle.fwd_wire.specs.Message.{MessageContent}
use Rattle.fwd_settings.specs.declared.settings_types.AllSettings.{AllSettings}
use Rattle.fwd_settings.specs.Requirements.{MeetsRequirements}
use Rattle.fwd_model.specs.Fact.{History, Stream, LineStream, MessageStream, Standard, Batch, NoChunk, Reason, TooLarge, NoNumber, Polled, Disconnected, Malformed, Accepted, Refused, IoFailed}
use Rattle.fwd_model.specs.Trace.{Action, OnLoop, Note}
use Rattle.fwd_model.specs.DeviceActions.{on_files}
use Rattle.fwd_model.specs.Settings.{outputs_for, paths_at, from_head_at, reads_stdin_at}
use Rattle.fwd_model.specs.Clock.{stopped, is_close_due}
use Rattle.fwd_model.specs.Streams.{stream_of, said}
use Rattle.fwd_model.specs.FollowedFiles.{file_at}
use Rattle.fwd_model.specs.Batches.{completed_lines, piece_batch, end_batch, poll_batch}
use Rattle.fwd_model.specs.Messages.{completed_messages, becomes_malformed, message_batch, reply_of}
use Rattle.fwd_model.specs.Chunks.{ChunkInfo, open_chunk, next, encoded, is_storable}
use Rattle.fwd_model.specs.Limits.{is_paused}
use Rattle.fwd_model.specs.Notes.{note_then, note, is_empty}
use Rattle.fwd_model.specs.CloseActions.{closes_chunk, closes_if_full, closes_all}
use Rattle.fwd_model.specs.Acceptance.{Acceptance, taken, ends_refused, refuses, starts_chunk, stores, accepts, ingests}
use Rattle.fwd_model.specs.FlushActions.{walk}
use Rattle.fwd_model.specs.InputActions.{hangs_up, after_reply, replies, acknowledges, accepts_messages, accepts_stream, pieces, polled, polls_file, polls_files, polls_input, polls_inputs, polls_all}
use Rattle.fwd_model.specs.StepActions.{closes_and_dispatches, ticks, stops, at_input_end, handles}
use Rattle.fwd_theorem_trace.specs.Past.{logged}
use Rattle.fwd_theorem_trace.specs.Allowed.{IsToStore}
use Rattle.fwd_theorem_trace.proofs.Members.{here, deeper}
use Rattle.fwd_theorem_crash.specs.CrashPoint.{CrashPoint, LeadsTo}
use Rattle.fwd_theorem_crash.proofs.RunTraversal.{after, ReturnsHistoryBy, TakenBy, CanTraverse, holds_if, deed, nothing, only, ask, files_rests, tells_then, rests_then}
use Rattle.fwd_theorem_crash.proofs.FlushTraversal.{tells_shuts, tells_fills, tells_closes_all, tells_walk, tells_has_room, tells_comes_back, tells_has_broken}
use Rattle.fwd_theorem_crash.proofs.WritableBatches.{IsWritable, lines_writable, messages_writable}

module _ (s : AllSettings) (sound : MeetsRequirements s) (P K : CrashPoint → Type 0) (can : CanTraverse s P K) where
  abbrev InputReturnsHistory : CrashPoint → Action History → Type 0
  InputReturnsHistory m p = ReturnsHistoryBy P K m p

  abbrev Taken : CrashPoint → Action Acceptance → Type 0
  Taken m p = TakenBy P K m p

  abbrev Told : History → CrashPoint → Type 0
  Told h end = (h ≡ logged end.past) × K end

  abbrev Took : Acceptance → CrashPoint → Type 0
  Took a end = (a.history ≡ logged end.past) × K end

  -- ---- acceptance

  -- after an action, the batch is taken or not
  ends_taken : (b : Bool) (m : CrashPoint) (p : Action History) → InputReturnsHistory m p → Taken m (bind p (λ (h : History). Return (record { history = h; taken = b })))
  ends_taken b m p first =
      holds_bind LeadsTo P Told Took m p (λ (h : History). Return (record { history = h; taken = b })) first (λ h end is. (can.now end is.1, is))

  taken_now : (b : Bool) (m : CrashPoint) → K m → Taken m (Return (record { history = logged m.past; taken = b }))
  taken_now b m kept = (can.now m kept, (refl, kept))

  taken_refuses : (b : Batch) (why : Reason) (m : CrashPoint) → K m → Taken m (refuses b why (logged m.past))
  taken_refuses b why m kept = deed s P K can Took (Refused b why) m ends_refused tt kept (λ answer then. taken_now false (after m (Note (Refused b why)) answer) then)

  taken_stores : (b : Batch) (c : Option ChunkInfo) (m : CrashPoint) → open_chunk (logged m.past) b.input b.tag ≡ c → IsToStore s b → IsWritable b → K m → Taken m (stores s b c (logged m.past))
  taken_stores b (Some c) m is store writable kept =
      can.appends b c m store writable is kept
      (λ end safe small shut. ends_taken true end (closes_if_full s c.number (logged end.past)) (tells_fills s P K can c.number end safe small shut))
      (λ end safe shut. ends_taken false end (closes_chunk s c.number (logged end.past)) (tells_shuts s P K can c.number end safe shut))
  taken_stores b None m is store writable kept =
      holds_if P Took (nat_lt (next (logged m.past)) numbers_end) m (starts_chunk s b (next (logged m.past)) (logged m.past)) (refuses b NoNumber (logged m.past))
      (λ left. can.begins b m store writable is left kept
      (λ end safe small shut. ends_taken true end (closes_if_full s (next (logged m.past)) (logged end.past)) (tells_fills s P K can (next (logged m.past)) end safe small shut)))
      (λ none. taken_refuses b NoNumber m kept)

  pub taken_accepts : (b : Batch) (m : CrashPoint) → IsWritable b → K m → Taken m (accepts s b (logged m.past))
  unfolding accepts
  taken_accepts b m writable kept =
      let h : History = logged m.past in
      let stored : Action Acceptance = cond (is_storable b.events) (stores s b (open_chunk h b.input b.tag) h) (refuses b TooLarge h) in
      let routed : Action Acceptance = cond (is_empty (outputs_for s b.tag)) (note_then (Accepted b NoChunk) h taken) stored in
      holds_if P Took (is_empty b.events) m (taken h) routed (λ none. taken_now true m kept)
      (λ some. holds_if P Took (is_empty (outputs_for s b.tag)) m (note_then (Accepted b NoChunk) h taken) stored
      (λ nobody. deed s P K can Took (Accepted b NoChunk) m taken tt kept (λ answer then. taken_now true (after m (Note (Accepted b NoChunk)) answer) then))
      (λ wanted. holds_if P Took (is_storable b.events) m (stores s b (open_chunk h b.input b.tag) h) (refuses b TooLarge h)
      (λ fits. taken_stores b (open_chunk h b.input b.tag) m refl (record { some = some; wanted = wanted; fits = leb-true (length (encoded b.events)) largest_batch fits }) writable kept)
      (λ large. taken_refuses b TooLarge m kept)))

  pub tells_takes : (b : Batch) (m : CrashPoint) → IsWritable b → K m → InputReturnsHistory m (ingests s b (logged m.past))
  unfolding ingests
  tells_takes b m writable kept =
      holds_bind LeadsTo P Took Told m (accepts s b (logged m.past)) (λ (a : Acceptance). Return a.history) (taken_accepts b m writable kept) (λ a end is. (can.now end is.1, is))

  -- ---- reads

  tells_hangs_up : (conn : ℕ) (m : CrashPoint) → K m → InputReturnsHistory m (hangs_up conn (logged m.past))
  unfolding hangs_up
  tells_hangs_up conn m kept =
      ask s P K can Told m (OnLoop (DropConn conn)) (λ _. note (Disconnected conn) (logged m.past)) tt tt kept (λ answer then. only s P K can (Disconnected conn) (after m (OnLoop (DropConn conn)) answer) tt then)

  abbrev Next : (History → Action History) → Type 0
  Next next = (end : CrashPoint) → K end → InputReturnsHistory end (next (logged end.past))

  tells_replied : (conn : ℕ) (next : History → Action History) (m : CrashPoint) (answer : Option (Unit {0})) → Next next → K m → InputReturnsHistory m (after_reply conn next (logged m.past) answer)
  tells_replied conn next m (Some done) more kept = more m kept
  tells_replied conn next m None more kept = tells_hangs_up conn m kept

  tells_replies : (conn : ℕ) (asked : Option (List ℕ)) (next : History → Action History) (m : CrashPoint) → Next next → K m → InputReturnsHistory m (replies conn asked next (logged m.past))
  tells_replies conn None next m more kept = more m kept
  tells_replies conn (Some bytes) next m more kept =
      ask s P K can Told m (OnLoop (Reply conn bytes)) (after_reply conn next (logged m.past)) tt tt kept (λ answer then. tells_replied conn next (after m (OnLoop (Reply conn bytes)) answer) answer more then)

  tells_answers : (conn : ℕ) (asked : Option (List ℕ)) (next : History → Action History) (yes : Bool) (m : CrashPoint) → Next next → K m → InputReturnsHistory m (acknowledges conn asked next (record { history = logged m.past; taken = yes }))
  tells_answers conn asked next true m more kept = tells_replies conn asked next m more kept
  tells_answers conn asked next false m more kept = tells_hangs_up conn m kept

  abbrev AreWritable : ℕ → List MessageContent → Type 0
  AreWritable input ms = (message : MessageContent) → Contains ms message → IsWritable (message_batch s input message)

  tells_reads : (input conn : ℕ) (breaks : Bool) (ms : List MessageContent) (m : CrashPoint) → AreWritable input ms → K m → InputReturnsHistory m (accepts_messages s input conn breaks ms (logged m.past))
  tells_reads input conn false [] m writable kept = nothing s P K can m kept
  tells_reads input conn true [] m writable kept = deed s P K can Told (Malformed input) m (hangs_up conn) tt kept (λ answer then. tells_hangs_up conn (after m (Note (Malformed input)) answer) then)
  tells_reads input conn breaks (message ∷ ms) m writable kept =
      let next : History → Action History = accepts_messages s input conn breaks ms in
      holds_bind LeadsTo P Took Told m (accepts s (message_batch s input message) (logged m.past)) (acknowledges conn (reply_of message) next)
      (taken_accepts (message_batch s input message) m (writable message (here message ms)) kept)
      (λ a end is.
      subst (λ (h : History). InputReturnsHistory end (acknowledges conn (reply_of message) next (record { history = h; taken = a.taken }))) (sym is.0)
      (tells_answers conn (reply_of message) next a.taken end (λ later then. tells_reads input conn breaks ms later (λ other has. writable other (deeper message ms other has)) then) is.1))

  tells_hears : (before : History) (input : ℕ) (bytes : List ℕ) (stream : Option Stream) (m : CrashPoint) → K m → InputReturnsHistory m (accepts_stream s before input bytes stream (logged m.past))
  tells_hears before input bytes None m kept = nothing s P K can m kept
  tells_hears before input bytes (Some (LineStream conn)) m kept =
      tells_takes (piece_batch s before input (LineStream conn) bytes) m (lines_writable s sound before input (completed_lines (said s before (LineStream conn)) bytes)) kept
  tells_hears before input bytes (Some (MessageStream conn)) m kept =
      let said_before = said s before (MessageStream conn) in
      tells_reads input conn (becomes_malformed said_before bytes) (completed_messages said_before bytes) m (λ message has. messages_writable s sound input said_before bytes message has) kept
  tells_hears before input bytes (Some (Standard reader)) m kept =
      tells_takes (piece_batch s before input (Standard reader) bytes) m (lines_writable s sound before input (completed_lines (said s before (Standard reader)) bytes)) kept

  tells_pieces : (before : History) (input conn : ℕ) (bytes : List ℕ) (m : CrashPoint) → K m → InputReturnsHistory m (pieces s before input conn bytes (logged m.past))
  unfolding pieces
  tells_pieces before input conn bytes m kept = tells_hears before input bytes (stream_of s before input conn) m kept

  -- ---- polls

  tells_polled : (input index : ℕ) (m : CrashPoint) (poll : Option Poll) → K m → InputReturnsHistory m (polled s input index (logged m.past) poll)
  tells_polled input index m None kept = only s P K can IoFailed m tt kept
  tells_polled input index m (Some poll) kept =
      deed s P K can Told (Polled input index poll.long poll.bytes) m (ingests s (poll_batch s (logged m.past) input index poll)) tt kept
      (λ answer then.
      tells_takes (poll_batch s (logged m.past) input index poll) (after m (Note (Polled input index poll.long poll.bytes)) answer)
      (lines_writable s sound (logged m.past) input (completed (file_at s (logged m.past) input index) poll)) then)

  tells_polls_file : (input index : ℕ) (path : List ℕ) (m : CrashPoint) → K m → InputReturnsHistory m (polls_file s input index path (logged m.past))
  unfolding polls_file
  tells_polls_file input index path m kept =
      let calls : FilesProgram (Option Poll) = polls_of path (from_head_at s input) (file_at s (logged m.past) input index).place in
      rests_then s P K can Told m (on_files calls) (λ poll h. polled s input index h poll) (files_rests s P K can calls m (logged m.past) refl kept)
      (λ poll end same then. tells_polled input index end poll then)

  tells_polls_files : (input index : ℕ) (paths : List (List ℕ)) (m : CrashPoint) → K m → InputReturnsHistory m (polls_files s input index paths (logged m.past))
  tells_polls_files input index [] m kept = nothing s P K can m kept
  tells_polls_files input index (path ∷ paths) m kept =
      tells_then s P K can Told m (polls_file s input index path (logged m.past)) (polls_files s input (index + 1) paths) (tells_polls_file input index path m kept)
      (λ end then. tells_polls_files input (index + 1) paths end then)

  tells_follows : (input : ℕ) (m : CrashPoint) → K m → InputReturnsHistory m (polls_input s input (logged m.past))
  unfolding polls_input
  tells_follows input m kept =
      holds_if P Told (is_paused s (logged m.past) input) m (Return (logged m.past)) (polls_files s input 0 (paths_at s input) (logged m.past))
      (λ yes. nothing s P K can m kept) (λ no. tells_polls_files input 0 (paths_at s input) m kept)

  tells_follows_each : (inputs : List ℕ) (m : CrashPoint) → K m → InputReturnsHistory m (polls_inputs s inputs (logged m.past))
  tells_follows_each [] m kept = nothing s P K can m kept
  tells_follows_each (input ∷ inputs) m kept =
      tells_then s P K can Told m (polls_input s input (logged m.past)) (polls_inputs s inputs) (tells_follows input m kept) (λ end then. tells_follows_each inputs end then)

  tells_follows_all : (m : CrashPoint) → K m → InputReturnsHistory m (polls_all s (logged m.past))
  unfolding polls_all
  tells_follows_all m kept = tells_follows_each (range_with_len 0 (length s.inputs)) m kept

  -- ---- steps

  tells_walks : (closing : Bool) (m : CrashPoint) → K m → InputReturnsHistory m (closes_and_dispatches s closing (logged m.past))
  unfolding closes_and_dispatches
  tells_walks true m kept = tells_then s P K can Told m (closes_all s (logged m.past)) (walk s) (tells_closes_all s P K can m kept) (λ end then. tells_walk s P K can end then)
  tells_walks false m kept = tells_walk s P K can m kept

  tells_ticks : (closing : Bool) (m : CrashPoint) → K m → InputReturnsHistory m (ticks s closing (logged m.past))
  unfolding ticks
  tells_ticks closing m kept = tells_then s P K can Told m (polls_all s (logged m.past)) (closes_and_dispatches s closing) (tells_follows_all m kept) (λ end then. tells_walks closing end then)

  tells_stops : (before : Option ℕ) (m : CrashPoint) → K m → InputReturnsHistory m (stops s before (logged m.past))
  unfolding stops
  tells_stops (Some at) m kept = nothing s P K can m kept
  tells_stops None m kept = tells_walks true m kept

  tells_finishes : (before : History) (input : ℕ) (m : CrashPoint) → K m → InputReturnsHistory m (at_input_end s before input (logged m.past))
  unfolding at_input_end
  tells_finishes before input m kept =
      holds_if P Told (reads_stdin_at s input) m (bind (ingests s (end_batch s before input (Standard input)) (logged m.past)) (stops s (stopped s before))) (Return (logged m.past))
      (λ yes. tells_then s P K can Told m (ingests s (end_batch s before input (Standard input)) (logged m.past)) (stops s (stopped s before))
      (tells_takes (end_batch s before input (Standard input)) m (lines_writable s sound before input (last_line (said s before (Standard input)))) kept)
      (λ end then. tells_stops (stopped s before) end then))
      (λ no. nothing s P K can m kept)

  pub tells_happens : (before : History) (brought : Happening) (m : CrashPoint) → K m → InputReturnsHistory m (handles s before brought (logged m.past))
  tells_happens before (happening.Tick now) m kept = tells_ticks (is_close_due s before now) m kept
  tells_happens before (happening.Joined input conn) m kept = nothing s P K can m kept
  tells_happens before (happening.Piece input conn bytes) m kept = tells_pieces before input.0 conn.0 bytes m kept
  tells_happens before (happening.Gone input conn) m kept = nothing s P K can m kept
  tells_happens before (happening.Room link) m kept = tells_has_room s P K can link.0 m kept
  tells_happens before (happening.Back link bytes) m kept = tells_comes_back s P K can link.0 bytes m kept
  tells_happens before (happening.Broken link) m kept = tells_has_broken s P K can link.0 m kept
  tells_happens before (happening.InputEnd input) m kept = tells_finishes before input.0 m kept
  tells_happens before happening.Stop m kept = tells_stops (stopped s before) m kept
  tells_happens before happening.End m kept = nothing s P K can m kept
  tells_happens before happening.Failed m kept = nothing s P K can m kept
