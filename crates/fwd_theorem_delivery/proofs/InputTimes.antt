-- Acceptance, reads, polls and steps keep the times.
use Rattle.std.proofs.Common.{◌≡◌, ◌⊎◌, inl, inr, ℕ, ◌+◌, nat_lt, not, Bool, true, false, cond, List, [], ◌∷◌, ◌++◌, length, Option, Some, None, refl, sym, subst, arith}
use Rattle.std.specs.List.{range_with_len}
use Rattle.fwd_base.specs.Limits.{numbers_end}
use Rattle.fwd_outside.specs.Program.{entry, Return, bind}
use Rattle.fwd_outside.specs.Loop.{Reply, DropConn}
use Rattle.fwd_outside.specs.declared.happening.Happening.{Happening}
use Rattle.fwd_outside.specs.declared.happening.Happening.TheVariants as happening
use Rattle.fwd_in_tail.specs.Followed.{Polled as Poll, polls as polls_of}
use Rattle.fwd_wire.specs.Message.{MessageContent}
use Rattle.fwd_store.specs.Store.{begins_as, append_to_program}
use Rattle.fwd_settings.specs.declared.settings_types.AllSettings.{AllSettings}
use Rattle.fwd_model.specs.Fact.{Fact, History, Stream, LineStream, MessageStream, Standard, Batch, NoChunk, NewChunk, AppendedTo, Reason, TooLarge, NoNumber, NotStored, Happened, Polled, Disconnected, Malformed, Offered, Accepted, Refused, IoFailed}
use Rattle.fwd_model.specs.Trace.{Call, Action, OnLoop, Note, history_after_call}
use Rattle.fwd_model.specs.DeviceActions.{on_disk, on_files}
use Rattle.fwd_model.specs.Settings.{outputs_for, home_at, names_for, paths_at, from_head_at, reads_stdin_at}
use Rattle.fwd_model.specs.Clock.{stopped, is_close_due}
use Rattle.fwd_model.specs.Streams.{stream_of, said}
use Rattle.fwd_model.specs.FollowedFiles.{file_at}
use Rattle.fwd_model.specs.Batches.{piece_batch, end_batch, poll_batch}
use Rattle.fwd_model.specs.Messages.{completed_messages, becomes_malformed, message_batch, reply_of}
use Rattle.fwd_model.specs.Chunks.{ChunkInfo, chunks_of, open_chunks, open_chunk, is_closed, next, encoded, is_storable}
use Rattle.fwd_model.specs.ChunkStorage.{kept_of, name_for}
use Rattle.fwd_model.specs.Limits.{is_paused}
use Rattle.fwd_model.specs.Notes.{note_then, is_empty}
use Rattle.fwd_model.specs.CloseActions.{closes_chunk, closes_if_full, closes_all}
use Rattle.fwd_model.specs.Acceptance.{Acceptance, taken, refuses, finishes_append, finishes_create, appends, starts_chunk, stores, accepts, ingests}
use Rattle.fwd_model.specs.FlushActions.{walk}
use Rattle.fwd_model.specs.InputActions.{hangs_up, after_reply, replies, acknowledges, accepts_messages, accepts_stream, pieces, polled, polls_file, polls_files, polls_input, polls_inputs, polls_all}
use Rattle.fwd_model.specs.StepActions.{closes_and_dispatches, ticks, stops, at_input_end, handles, step}
use Rattle.fwd_theorem_trace.specs.Past.{Past, logged}
use Rattle.fwd_theorem_trace.specs.Allowed.{StartsChunk, AppendsTo, FactAllowed, IsAllowed, Allowed}
use Rattle.fwd_theorem_trace.proofs.Members.{from_filter, from_find, off_where_not}
use Rattle.fwd_theorem_trace.proofs.Traversal.{Traverses, walks_bind}
use Rattle.fwd_theorem_trace.proofs.Invariant.{shut_below, sound}
use Rattle.fwd_theorem_delivery.proofs.TimedFacts.{Calm, InTime, ReturnsTimed, MayNote, deed, only, nothing, tells_then, tells_behind, tells_if, disk_rests, files_rests, calm_shuts, calm_fills, calm_closes_all}
use Rattle.fwd_theorem_delivery.proofs.FlushTimes.{calm_walk, calm_has_room, calm_comes_back, calm_has_broken}

module _ (s : AllSettings) where
  -- ---- a chunk that was offered a batch is open

  pub record NotedAt (fact : Fact) (before : History) : Type 0 where
    pub past : Past
    pub due : Allowed s past
    pub may : FactAllowed s fact past
    pub is : logged past ≡ before

  not_there : (later : History) (fact : Fact) (before : History) → [] ≡ later ++ fact ∷ before → ⊥
  not_there [] fact before is = absurd (cc is)
  not_there (f ∷ later) fact before is = absurd (cc is)

  pub noted_at : (past : Past) (later : History) (fact : Fact) (before : History) → Allowed s past → logged past ≡ later ++ fact ∷ before → NotedAt fact before
  noted_at [] later fact before due is = absurd (not_there later fact before is)
  noted_at (e ∷ past) later fact before due is = by e.call due.0 later is (λ rest same. noted_at past rest fact before due.1 same)
    where
      at_note : (f : Fact) → FactAllowed s f past → f ∷ logged past ≡ fact ∷ before → NotedAt fact before
      at_note f may same = let one : f ≡ fact = cc same in let rest : logged past ≡ before = cc same in record { past = past; due = due.1; may = subst (λ (x : Fact). FactAllowed s x past) one may; is = rest }

      by : (call : Call) → IsAllowed s call past → (rest : History) → history_after_call call (logged past) ≡ rest ++ fact ∷ before → ((rest : History) → logged past ≡ rest ++ fact ∷ before → NotedAt fact before) → NotedAt fact before
      by (Note f) may [] same more = at_note f may same
      by (Note f) may (g ∷ rest) same more = more rest (cc same)
      by call may rest same more = more rest same

  stood_open : (b : Batch) (chunk : ℕ) (past : Past) → Allowed s past → StartsChunk b chunk (logged past) ⊎ AppendsTo b chunk (logged past) → is_closed (logged past) chunk ≡ false
  stood_open b chunk past due (inl begins) = by (is_closed (logged past) chunk) refl
    where
      by : (x : Bool) → is_closed (logged past) chunk ≡ x → x ≡ false
      by true is = let less = shut_below (next (logged past)) (logged past) chunk (sound s past due).fresh is in let at = begins.next_one in absurd (omega (arith, less, at))
      by false is = refl
  stood_open b chunk past due (inr grows) =
      let found = from_find _ (open_chunks (logged past)) grows.chunk_open grows.is in
      let off = off_where_not (is_closed (logged past) grows.chunk_open.number) (from_filter (λ (c : ChunkInfo). not (is_closed (logged past) c.number)) (chunks_of (logged past)) grows.chunk_open found.0).1 in
      subst (λ (n : ℕ). is_closed (logged past) n ≡ false) grows.number off

  pub offered_open : (b : Batch) (chunk : ℕ) (past : Past) (before : History) → Allowed s past → logged past ≡ Offered chunk b ∷ before → is_closed (logged past) chunk ≡ false
  offered_open b chunk past before due is =
      let at = noted_at past [] (Offered chunk b) before due is in
      subst (λ (h : History). is_closed h chunk ≡ false) (sym is) (subst (λ (h : History). is_closed h chunk ≡ false) at.is (stood_open b chunk at.past at.due at.may.1))

  -- ---- acceptance

  abbrev pub InputReturns : Past → Action History → Type 0
  InputReturns past p = ReturnsTimed s (Calm s) past p

  abbrev Taken : Past → Action Acceptance → Type 0
  Taken past p = Traverses (InTime s) (λ (a : Acceptance) (now : Past). (a.history ≡ logged now) × (Calm s) (logged now)) past p

  ends_taken : (b : Bool) (past : Past) (p : Action History) → InputReturns past p → Taken past (bind p (λ (h : History). Return (record { history = h; taken = b })))
  ends_taken b past p first =
      walks_bind (InTime s) (λ (h : History) (now : Past). (h ≡ logged now) × (Calm s) (logged now)) (λ (a : Acceptance) (now : Past). (a.history ≡ logged now) × (Calm s) (logged now)) past p
      (λ (h : History). Return (record { history = h; taken = b })) first (λ h now grown in_time is. (in_time, is))

  taken_deed : (fact : Fact) (past : Past) (next : History → Action Acceptance) → MayNote s fact past → InTime s past
      → ((answer : Unit {0}) → InTime s (entry (Note fact) answer ∷ past) → Taken (entry (Note fact) answer ∷ past) (next (fact ∷ logged past))) → Taken past (note_then fact (logged past) next)
  taken_deed fact past next may in_time more = (in_time, λ answer. more answer (λ due. (may due.1 due.0, in_time due.1)))

  taken_behind : {R : Type 0} (past : Past) (p : Action R) (next : R → History → Action Acceptance) → Traverses (InTime s) (λ (x : R) (now : Past). logged now ≡ logged past) past p
      → ((x : R) (now : Past) → InTime s now → logged now ≡ logged past → Taken now (next x (logged now))) → Taken past (bind p (λ (x : R). next x (logged past)))
  taken_behind {R = R} past p next first second =
      walks_bind (InTime s) (λ (x : R) (now : Past). logged now ≡ logged past) (λ (a : Acceptance) (now : Past). (a.history ≡ logged now) × (Calm s) (logged now)) past p (λ (x : R). next x (logged past)) first
      (λ x now grown in_time same. subst (λ (h : History). Taken now (next x h)) same (second x now in_time same))

  taken_refuses : (b : Batch) (why : Reason) (past : Past) → InTime s past → (Calm s) (logged past) → Taken past (refuses b why (logged past))
  taken_refuses b why past in_time calm = (in_time, λ answer. ((λ due. (tt, in_time due.1)), (refl, calm)))

  taken_appended : (b : Batch) (chunk : ℕ) (past : Past) (before : History) (answer : Option (Unit {0})) → logged past ≡ Offered chunk b ∷ before → InTime s past → (Calm s) (logged past) → Taken past (finishes_append s b chunk (logged past) answer)
  taken_appended b chunk past before (Some done) is in_time calm =
      taken_deed (Accepted b (AppendedTo chunk)) past (λ at. bind (closes_if_full s chunk at) taken) (λ _ _. tt) in_time
      (λ answer later.
      let at : Past = entry (Note (Accepted b (AppendedTo chunk))) answer ∷ past in
      ends_taken true at (closes_if_full s chunk (logged at)) (calm_fills s chunk at (λ due. offered_open b chunk past before due.1 is) later calm))
  taken_appended b chunk past before None is in_time calm = (
    in_time,
    λ answer. (
      λ due. (tt, in_time due.1),
      λ more.
          let last : Past = entry (Note (Refused b NotStored)) more ∷ entry (Note IoFailed) answer ∷ past in
          ends_taken false last (closes_chunk s chunk (logged last)) (calm_shuts s chunk last (λ due. offered_open b chunk past before due.1.1 is) (λ due. (tt, (tt, in_time due.1.1))) calm),
    ),
  )

  taken_placed : (b : Batch) (chunk : ℕ) (past : Past) (before : History) (answer : Option (Unit {0})) → logged past ≡ Offered chunk b ∷ before → InTime s past → (Calm s) (logged past) → Taken past (finishes_create s b chunk (logged past) answer)
  taken_placed b chunk past before (Some done) is in_time calm =
      taken_deed (Accepted b (NewChunk chunk)) past (λ at. bind (closes_if_full s chunk at) taken) (λ _ _. tt) in_time
      (λ answer later.
      let at : Past = entry (Note (Accepted b (NewChunk chunk))) answer ∷ past in
      ends_taken true at (closes_if_full s chunk (logged at)) (calm_fills s chunk at (λ due. offered_open b chunk past before due.1 is) later calm))
  taken_placed b chunk past before None is in_time calm =
      (in_time, λ answer. taken_refuses b NotStored (entry (Note IoFailed) answer ∷ past) (λ due. (tt, in_time due.1)) calm)

  taken_appends : (b : Batch) (chunk : ℕ) (past : Past) → InTime s past → (Calm s) (logged past) → Taken past (appends s b chunk (logged past))
  unfolding appends
  taken_appends b chunk past in_time calm =
      taken_deed (Offered chunk b) past (λ at. bind (on_disk (append_to_program (kept_of s (logged past) chunk) (encoded b.events) s.service.full)) (finishes_append s b chunk at)) (λ _ _. tt) in_time
      (λ answer later.
      let at : Past = entry (Note (Offered chunk b)) answer ∷ past in
      taken_behind at (on_disk (append_to_program (kept_of s (logged past) chunk) (encoded b.events) s.service.full)) (λ done h. finishes_append s b chunk h done)
      (disk_rests s (append_to_program (kept_of s (logged past) chunk) (encoded b.events) s.service.full) at later)
      (λ done now still same. taken_appended b chunk now (logged past) done same still (subst (Calm s) (sym same) calm)))

  taken_begins : (b : Batch) (chunk : ℕ) (past : Past) → InTime s past → (Calm s) (logged past) → Taken past (starts_chunk s b chunk (logged past))
  unfolding starts_chunk
  taken_begins b chunk past in_time calm =
      taken_deed (Offered chunk b) past (λ at. bind (on_disk (begins_as (name_for s b.input chunk) b.tag (home_at s b.input) (encoded b.events) (names_for s b.tag))) (finishes_create s b chunk at)) (λ _ _. tt) in_time
      (λ answer later.
      let at : Past = entry (Note (Offered chunk b)) answer ∷ past in
      taken_behind at (on_disk (begins_as (name_for s b.input chunk) b.tag (home_at s b.input) (encoded b.events) (names_for s b.tag))) (λ done h. finishes_create s b chunk h done)
      (disk_rests s (begins_as (name_for s b.input chunk) b.tag (home_at s b.input) (encoded b.events) (names_for s b.tag)) at later)
      (λ done now still same. taken_placed b chunk now (logged past) done same still (subst (Calm s) (sym same) calm)))

  taken_if : (x : Bool) (past : Past) (p q : Action Acceptance) → Taken past p → Taken past q → Taken past (cond x p q)
  taken_if true past p q first second = first
  taken_if false past p q first second = second

  taken_stores : (b : Batch) (c : Option ChunkInfo) (past : Past) → InTime s past → (Calm s) (logged past) → Taken past (stores s b c (logged past))
  taken_stores b (Some c) past in_time calm = taken_appends b c.number past in_time calm
  taken_stores b None past in_time calm =
      taken_if (nat_lt (next (logged past)) numbers_end) past (starts_chunk s b (next (logged past)) (logged past)) (refuses b NoNumber (logged past)) (taken_begins b (next (logged past)) past in_time calm) (taken_refuses b NoNumber past in_time calm)

  taken_accepts : (b : Batch) (past : Past) → InTime s past → (Calm s) (logged past) → Taken past (accepts s b (logged past))
  unfolding accepts
  taken_accepts b past in_time calm =
      let h : History = logged past in
      let kept : Action Acceptance = cond (is_storable b.events) (stores s b (open_chunk h b.input b.tag) h) (refuses b TooLarge h) in
      let routed : Action Acceptance = cond (is_empty (outputs_for s b.tag)) (note_then (Accepted b NoChunk) h taken) kept in
      taken_if (is_empty b.events) past (taken h) routed (in_time, (refl, calm))
      (taken_if (is_empty (outputs_for s b.tag)) past (note_then (Accepted b NoChunk) h taken) kept (in_time, λ answer. ((λ due. (tt, in_time due.1)), (refl, calm)))
      (taken_if (is_storable b.events) past (stores s b (open_chunk h b.input b.tag) h) (refuses b TooLarge h) (taken_stores b (open_chunk h b.input b.tag) past in_time calm) (taken_refuses b TooLarge past in_time calm)))

  told_takes : (b : Batch) (past : Past) → InTime s past → (Calm s) (logged past) → InputReturns past (ingests s b (logged past))
  unfolding ingests
  told_takes b past in_time calm =
      walks_bind (InTime s) (λ (a : Acceptance) (now : Past). (a.history ≡ logged now) × (Calm s) (logged now)) (λ (h : History) (now : Past). (h ≡ logged now) × (Calm s) (logged now)) past (accepts s b (logged past))
      (λ (a : Acceptance). Return a.history) (taken_accepts b past in_time calm) (λ a now grown later is. (later, is))

  -- ---- input

  told_hangs_up : (conn : ℕ) (past : Past) → InTime s past → (Calm s) (logged past) → InputReturns past (hangs_up conn (logged past))
  unfolding hangs_up
  told_hangs_up conn past in_time calm = (in_time, λ answer. only s (Calm s) (Disconnected conn) (entry (OnLoop (DropConn conn)) answer ∷ past) (λ _ _. tt) (λ due. in_time due.1) calm)

  abbrev Next : (History → Action History) → Type 0
  Next next = (now : Past) → InTime s now → (Calm s) (logged now) → InputReturns now (next (logged now))

  told_replied : (conn : ℕ) (next : History → Action History) (past : Past) (answer : Option (Unit {0})) → Next next → InTime s past → (Calm s) (logged past) → InputReturns past (after_reply conn next (logged past) answer)
  told_replied conn next past (Some done) more in_time calm = more past in_time calm
  told_replied conn next past None more in_time calm = told_hangs_up conn past in_time calm

  told_replies : (conn : ℕ) (asked : Option (List ℕ)) (next : History → Action History) (past : Past) → Next next → InTime s past → (Calm s) (logged past) → InputReturns past (replies conn asked next (logged past))
  told_replies conn None next past more in_time calm = more past in_time calm
  told_replies conn (Some bytes) next past more in_time calm = (in_time, λ answer. told_replied conn next (entry (OnLoop (Reply conn bytes)) answer ∷ past) answer more (λ due. in_time due.1) calm)

  told_answers : (conn : ℕ) (asked : Option (List ℕ)) (next : History → Action History) (yes : Bool) (past : Past) → Next next → InTime s past → (Calm s) (logged past)
      → InputReturns past (acknowledges conn asked next (record { history = logged past; taken = yes }))
  told_answers conn asked next true past more in_time calm = told_replies conn asked next past more in_time calm
  told_answers conn asked next false past more in_time calm = told_hangs_up conn past in_time calm

  told_reads : (input conn : ℕ) (breaks : Bool) (ms : List MessageContent) (past : Past) → InTime s past → (Calm s) (logged past) → InputReturns past (accepts_messages s input conn breaks ms (logged past))
  told_reads input conn false [] past in_time calm = nothing s (Calm s) past in_time calm
  told_reads input conn true [] past in_time calm =
      deed s (Calm s) (Malformed input) past (hangs_up conn) (λ _ _. tt) in_time (λ answer later. told_hangs_up conn (entry (Note (Malformed input)) answer ∷ past) later calm)
  told_reads input conn breaks (m ∷ ms) past in_time calm =
      walks_bind (InTime s) (λ (a : Acceptance) (now : Past). (a.history ≡ logged now) × (Calm s) (logged now)) (λ (h : History) (now : Past). (h ≡ logged now) × (Calm s) (logged now)) past (accepts s (message_batch s input m) (logged past))
      (acknowledges conn (reply_of m) (accepts_messages s input conn breaks ms)) (taken_accepts (message_batch s input m) past in_time calm)
      (λ a now grown later is.
      subst (λ (h : History). InputReturns now (acknowledges conn (reply_of m) (accepts_messages s input conn breaks ms) (record { history = h; taken = a.taken }))) (sym is.0)
      (told_answers conn (reply_of m) (accepts_messages s input conn breaks ms) a.taken now (λ last still more. told_reads input conn breaks ms last still more) later is.1))

  told_hears : (before : History) (input : ℕ) (bytes : List ℕ) (stream : Option Stream) (past : Past) → InTime s past → (Calm s) (logged past) → InputReturns past (accepts_stream s before input bytes stream (logged past))
  told_hears before input bytes None past in_time calm = nothing s (Calm s) past in_time calm
  told_hears before input bytes (Some (LineStream conn)) past in_time calm = told_takes (piece_batch s before input (LineStream conn) bytes) past in_time calm
  told_hears before input bytes (Some (MessageStream conn)) past in_time calm =
      told_reads input conn (becomes_malformed (said s before (MessageStream conn)) bytes) (completed_messages (said s before (MessageStream conn)) bytes) past in_time calm
  told_hears before input bytes (Some (Standard reader)) past in_time calm = told_takes (piece_batch s before input (Standard reader) bytes) past in_time calm

  told_pieces : (before : History) (input conn : ℕ) (bytes : List ℕ) (past : Past) → InTime s past → (Calm s) (logged past) → InputReturns past (pieces s before input conn bytes (logged past))
  unfolding pieces
  told_pieces before input conn bytes past in_time calm = told_hears before input bytes (stream_of s before input conn) past in_time calm

  -- ---- polls

  told_polled : (input index : ℕ) (past : Past) (poll : Option Poll) → InTime s past → (Calm s) (logged past) → InputReturns past (polled s input index (logged past) poll)
  told_polled input index past None in_time calm = only s (Calm s) IoFailed past (λ _ _. tt) in_time calm
  told_polled input index past (Some poll) in_time calm =
      deed s (Calm s) (Polled input index poll.long poll.bytes) past (ingests s (poll_batch s (logged past) input index poll)) (λ _ _. tt) in_time
      (λ answer later. told_takes (poll_batch s (logged past) input index poll) (entry (Note (Polled input index poll.long poll.bytes)) answer ∷ past) later calm)

  told_polls_file : (input index : ℕ) (path : List ℕ) (past : Past) → InTime s past → (Calm s) (logged past) → InputReturns past (polls_file s input index path (logged past))
  unfolding polls_file
  told_polls_file input index path past in_time calm =
      tells_behind s (Calm s) past (on_files (polls_of path (from_head_at s input) (file_at s (logged past) input index).place)) (λ poll h. polled s input index h poll)
      (files_rests s (polls_of path (from_head_at s input) (file_at s (logged past) input index).place) past in_time)
      (λ poll now later same. told_polled input index now poll later (subst (Calm s) (sym same) calm))

  told_then : (past : Past) (p : Action History) (next : History → Action History) → InputReturns past p → Next next → InputReturns past (bind p next)
  told_then past p next first second = tells_then s (Calm s) (Calm s) past p next first (λ now grown later calm. second now later calm)

  told_polls_files : (input index : ℕ) (paths : List (List ℕ)) (past : Past) → InTime s past → (Calm s) (logged past) → InputReturns past (polls_files s input index paths (logged past))
  told_polls_files input index [] past in_time calm = nothing s (Calm s) past in_time calm
  told_polls_files input index (path ∷ paths) past in_time calm =
      told_then past (polls_file s input index path (logged past)) (polls_files s input (index + 1) paths) (told_polls_file input index path past in_time calm) (told_polls_files input (index + 1) paths)

  told_follows : (input : ℕ) (past : Past) → InTime s past → (Calm s) (logged past) → InputReturns past (polls_input s input (logged past))
  unfolding polls_input
  told_follows input past in_time calm =
      tells_if s (Calm s) (is_paused s (logged past) input) past (Return (logged past)) (polls_files s input 0 (paths_at s input) (logged past))
      (λ yes. nothing s (Calm s) past in_time calm) (λ no. told_polls_files input 0 (paths_at s input) past in_time calm)

  told_follows_each : (inputs : List ℕ) (past : Past) → InTime s past → (Calm s) (logged past) → InputReturns past (polls_inputs s inputs (logged past))
  told_follows_each [] past in_time calm = nothing s (Calm s) past in_time calm
  told_follows_each (input ∷ inputs) past in_time calm = told_then past (polls_input s input (logged past)) (polls_inputs s inputs) (told_follows input past in_time calm) (told_follows_each inputs)

  told_follows_all : (past : Past) → InTime s past → (Calm s) (logged past) → InputReturns past (polls_all s (logged past))
  unfolding polls_all
  told_follows_all past in_time calm = told_follows_each (range_with_len 0 (length s.inputs)) past in_time calm

  -- ---- steps

  told_walks : (closing : Bool) (past : Past) → InTime s past → (Calm s) (logged past) → InputReturns past (closes_and_dispatches s closing (logged past))
  unfolding closes_and_dispatches
  told_walks true past in_time calm = told_then past (closes_all s (logged past)) (walk s) (calm_closes_all s past in_time calm) (calm_walk s)
  told_walks false past in_time calm = calm_walk s past in_time calm

  told_ticks : (closing : Bool) (past : Past) → InTime s past → (Calm s) (logged past) → InputReturns past (ticks s closing (logged past))
  unfolding ticks
  told_ticks closing past in_time calm = told_then past (polls_all s (logged past)) (closes_and_dispatches s closing) (told_follows_all past in_time calm) (told_walks closing)

  told_stops : (before : Option ℕ) (past : Past) → InTime s past → (Calm s) (logged past) → InputReturns past (stops s before (logged past))
  unfolding stops
  told_stops (Some at) past in_time calm = nothing s (Calm s) past in_time calm
  told_stops None past in_time calm = told_walks true past in_time calm

  told_finishes : (before : History) (input : ℕ) (past : Past) → InTime s past → (Calm s) (logged past) → InputReturns past (at_input_end s before input (logged past))
  unfolding at_input_end
  told_finishes before input past in_time calm =
      tells_if s (Calm s) (reads_stdin_at s input) past (bind (ingests s (end_batch s before input (Standard input)) (logged past)) (stops s (stopped s before))) (Return (logged past))
      (λ yes. told_then past (ingests s (end_batch s before input (Standard input)) (logged past)) (stops s (stopped s before)) (told_takes (end_batch s before input (Standard input)) past in_time calm) (told_stops (stopped s before)))
      (λ no. nothing s (Calm s) past in_time calm)

  told_happens : (before : History) (brought : Happening) (past : Past) → InTime s past → (Calm s) (logged past) → InputReturns past (handles s before brought (logged past))
  told_happens before (happening.Tick now) past in_time calm = told_ticks (is_close_due s before now) past in_time calm
  told_happens before (happening.Joined input conn) past in_time calm = nothing s (Calm s) past in_time calm
  told_happens before (happening.Piece input conn bytes) past in_time calm = told_pieces before input.0 conn.0 bytes past in_time calm
  told_happens before (happening.Gone input conn) past in_time calm = nothing s (Calm s) past in_time calm
  told_happens before (happening.Room link) past in_time calm = calm_has_room s link.0 past in_time calm
  told_happens before (happening.Back link bytes) past in_time calm = calm_comes_back s link.0 bytes past in_time calm
  told_happens before (happening.Broken link) past in_time calm = calm_has_broken s link.0 past in_time calm
  told_happens before (happening.InputEnd input) past in_time calm = told_finishes before input.0 past in_time calm
  told_happens before happening.Stop past in_time calm = told_stops (stopped s before) past in_time calm
  told_happens before happening.End past in_time calm = nothing s (Calm s) past in_time calm
  told_happens before happening.Failed past in_time calm = nothing s (Calm s) past in_time calm

  pub told_step : (x : Happening) (past : Past) → InTime s past → (Calm s) (logged past) → InputReturns past (step s x (logged past))
  unfolding step
  told_step x past in_time calm = deed s (Calm s) (Happened x) past (λ h. handles s (logged past) x h) (λ _ _. tt) in_time (λ answer later. told_happens (logged past) x (entry (Note (Happened x)) answer ∷ past) later calm)
