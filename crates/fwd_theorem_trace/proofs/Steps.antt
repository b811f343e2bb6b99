-- What acceptance, reads, polls and steps do to the history.
use Rattle.std.proofs.Common.{◌≡◌, inl, inr, ℕ, ◌+◌, nat_lt, Bool, true, false, cond, List, [], ◌∷◌, length, Option, Some, None, refl, sym, ap, subst}
use Rattle.std.specs.Prelude.{Contains}
use Rattle.std.proofs.lemmas.Bool.{leb-true, leb-false}
use Rattle.std.specs.List.{range_with_len}
use Rattle.std.proofs.lemmas.List.Elements.{Contains-append_right}
use Rattle.fwd_base.specs.Limits.{largest_batch, numbers_end}
use Rattle.fwd_outside.specs.Program.{entry, Return, Ask, bind}
use Rattle.fwd_outside.specs.Loop.{LoopCall, Start, Wait, Reply, DropConn}
use Rattle.fwd_outside.specs.Disk.{DiskProgram}
use Rattle.fwd_outside.specs.Files.{FilesProgram}
use Rattle.fwd_outside.specs.declared.happening.Happening.{Happening}
use Rattle.fwd_outside.specs.declared.happening.Happening.TheVariants as happening
use Rattle.fwd_in_tail.specs.Followed.{Polled as Poll, polls as polls_of}
use Rattle.fwd_wire.specs.Message.{MessageContent}
use Rattle.fwd_store.specs.Store.{begins_as, append_to_program}
use Rattle.fwd_settings.specs.declared.settings_types.AllSettings.{AllSettings}
use Rattle.fwd_model.specs.Fact.{Fact, History, Stream, LineStream, MessageStream, Standard, Batch, NoChunk, NewChunk, AppendedTo, Reason, TooLarge, NoNumber, NotStored, Happened, Resumed, Saved, Polled, Disconnected, Malformed, Found, Offered, Accepted, Refused, IoFailed}
use Rattle.fwd_model.specs.Trace.{Call, Answer, Action, OnLoop, OnDisk, OnFiles, OnKeeper, Note}
use Rattle.fwd_model.specs.DeviceActions.{on_disk, on_files}
use Rattle.fwd_model.specs.Settings.{outputs_for, home_at, names_for, paths_at, from_head_at, reads_stdin_at}
use Rattle.fwd_model.specs.Clock.{stopped, is_close_due}
use Rattle.fwd_model.specs.Streams.{stream_of, said}
use Rattle.fwd_model.specs.FollowedFiles.{file_at}
use Rattle.fwd_model.specs.Batches.{piece_batch, end_batch, poll_batch}
use Rattle.fwd_model.specs.Messages.{completed_messages, becomes_malformed, message_batch, reply_of}
use Rattle.fwd_model.specs.Chunks.{ChunkInfo, chunks_of, open_chunks, open_chunk, next, encoded, is_storable}
use Rattle.fwd_model.specs.ChunkStorage.{kept_of, name_for}
use Rattle.fwd_model.specs.Limits.{is_paused, paused}
use Rattle.fwd_model.specs.Notes.{note_then, is_empty}
use Rattle.fwd_model.specs.CloseActions.{closes_chunk, closes_if_full, closes_all}
use Rattle.fwd_model.specs.Acceptance.{Acceptance, taken, refuses, finishes_append, finishes_create, appends, starts_chunk, stores, accepts, ingests}
use Rattle.fwd_model.specs.FlushActions.{walk}
use Rattle.fwd_model.specs.InputActions.{hangs_up, after_reply, replies, acknowledges, accepts_messages, accepts_stream, pieces, polled, polls_file, polls_files, polls_input, polls_inputs, polls_all}
use Rattle.fwd_model.specs.StepActions.{closes_and_dispatches, ticks, stops, at_input_end, handles}
use Rattle.fwd_theorem_trace.specs.Past.{Past, logged}
use Rattle.fwd_theorem_trace.specs.Allowed.{IsChunk, StartsChunk, AppendsTo, IsToStore, FactAllowed, IsAllowed, Allowed}
use Rattle.fwd_theorem_trace.proofs.Members.{here, from_filter, from_find}
use Rattle.fwd_theorem_trace.proofs.Traversal.{Traverses, Extends, longer, walks_bind, walks_if}
use Rattle.fwd_theorem_trace.proofs.Persistence.{chunk_still}
use Rattle.fwd_theorem_trace.proofs.Actions.{IsInnerFact, IsInnerLoop, IsInner, IsKept, tells_shuts, tells_fills, tells_closes_all, tells_walk, tells_has_room, tells_comes_back, tells_has_broken}

-- all facts that a step logs after its event
abbrev pub IsOuterFact : Fact → Type 0
IsOuterFact (Happened brought) = ⊥
IsOuterFact (Resumed input index place) = ⊥
IsOuterFact (Saved input index place) = ⊥
IsOuterFact (Found number stream name bytes) = ⊥
IsOuterFact fact = Unit {0}

abbrev pub IsOuterLoop : LoopCall → Type 0
IsOuterLoop (Start ends) = ⊥
IsOuterLoop (Wait until paused) = ⊥
IsOuterLoop call = Unit {0}

abbrev pub IsOuter : Call → Type 0
IsOuter (OnLoop call) = IsOuterLoop call
IsOuter (OnDisk call) = Unit {0}
IsOuter (OnFiles call) = Unit {0}
IsOuter (OnKeeper call) = ⊥
IsOuter (Note fact) = IsOuterFact fact

fact_outer : (fact : Fact) → IsInnerFact fact → IsOuterFact fact
fact_outer (Happened brought) is = absurd is
fact_outer (Resumed input index place) is = absurd is
fact_outer (Saved input index place) is = absurd is
fact_outer (Found number stream name bytes) is = absurd is
fact_outer fact is = tt

loop_outer : (call : LoopCall) → IsInnerLoop call → IsOuterLoop call
loop_outer (Start ends) is = absurd is
loop_outer (Wait until paused) is = absurd is
loop_outer call is = tt

pub outer : (call : Call) → IsInner call → IsOuter call
outer (OnLoop call) is = loop_outer call is
outer (OnDisk call) is = tt
outer (OnFiles call) is = tt
outer (OnKeeper call) is = absurd is
outer (Note fact) is = fact_outer fact is

module _ (s : AllSettings) (K : Past → Type 0) (stable : IsKept s IsOuter K) where
  inner : IsKept s IsInner K
  inner call answer past is due kept = stable call answer past (outer call is) due kept

  abbrev Ready : Past → Type 0
  Ready past = Allowed s past × K past

  abbrev StepReturnsHistory : Past → Action History → Type 0
  StepReturnsHistory past p = Traverses (Allowed s) (λ (h : History) (now : Past). (h ≡ logged now) × K now) past p

  -- an acceptance returns the history so far
  abbrev Taken : Past → Action Acceptance → Type 0
  Taken past p = Traverses (Allowed s) (λ (a : Acceptance) (now : Past). (a.history ≡ logged now) × K now) past p

  on : (call : Call) (answer : Answer call) (past : Past) → IsOuter call → IsAllowed s call past → Ready past → Ready (entry call answer ∷ past)
  on call answer past is due ready = ((due, ready.0), stable call answer past is due ready.1)

  nothing : (past : Past) → Ready past → StepReturnsHistory past (Return (logged past))
  nothing past ready = (ready.0, (refl, ready.1))

  told_then : (past : Past) (p : Action History) (next : History → Action History) → StepReturnsHistory past p
      → ((now : Past) → Extends past now → Ready now → StepReturnsHistory now (next (logged now))) → StepReturnsHistory past (bind p next)
  told_then past p next first second =
      let M : History → Past → Type 0 = λ (h : History) (now : Past). (h ≡ logged now) × K now in
      walks_bind (Allowed s) M M past p next first (λ h now grown due is. subst (λ (x : History). StepReturnsHistory now (next x)) (sym is.0) (second now grown (due, is.1)))

  -- after an action, the batch is taken or not
  ends_taken : (b : Bool) (past : Past) (p : Action History) → StepReturnsHistory past p → Taken past (bind p (λ (h : History). Return (record { history = h; taken = b })))
  ends_taken b past p first =
      walks_bind (Allowed s) (λ (h : History) (now : Past). (h ≡ logged now) × K now) (λ (a : Acceptance) (now : Past). (a.history ≡ logged now) × K now) past p
      (λ (h : History). Return (record { history = h; taken = b })) first (λ h now grown due is. (due, is))

  -- a disk program, and then an acceptance; it logs nothing
  taken_behind : {R : Type 0} (p : DiskProgram R) (past : Past) (next : R → History → Action Acceptance) → Ready past
      → ((x : R) (now : Past) → Extends past now → logged now ≡ logged past → Ready now → Taken now (next x (logged now))) → Taken past (bind (on_disk p) (λ (x : R). next x (logged past)))
  taken_behind (Return x) past next ready more = more x past ([], refl) refl ready
  taken_behind (Ask call go) past next ready more = (
    ready.0,
    λ answer.
        taken_behind (go answer) (entry (OnDisk call) answer ∷ past) next (on (OnDisk call) answer past tt tt ready)
        (λ x now grown same. more x now (longer (entry (OnDisk call) answer) past now grown) same),
  )

  taken_refuses : (b : Batch) (why : Reason) (past : Past) → FactAllowed s (Refused b why) past → Ready past → Taken past (refuses b why (logged past))
  taken_refuses b why past due ready = (ready.0, λ answer. let then = on (Note (Refused b why)) answer past tt due ready in (then.0, (refl, then.1)))

  open_one : (b : Batch) (chunk : ℕ) (h : History) → AppendsTo b chunk h → IsChunk h chunk
  open_one b chunk h grows =
      let found = from_find _ (open_chunks h) grows.chunk_open grows.is in
      record { chunk = grows.chunk_open; stands = (from_filter _ (chunks_of h) grows.chunk_open found.0).0; is = grows.number }

  taken_appended : (b : Batch) (chunk : ℕ) (past : Past) (before : History) (answer : Option (Unit {0})) → logged past ≡ Offered chunk b ∷ before → IsToStore s b → AppendsTo b chunk before → Ready past
      → Taken past (finishes_append s b chunk (logged past) answer)
  taken_appended b chunk past before (Some done) is store grows ready = (
    ready.0,
    λ answer.
        let due : FactAllowed s (Accepted b (AppendedTo chunk)) past = (store, record { before = before; is = is; stood = grows }) in
        let then = on (Note (Accepted b (AppendedTo chunk))) answer past tt due ready in
        let at : Past = entry (Note (Accepted b (AppendedTo chunk))) answer ∷ past in
        let one = open_one b chunk before grows in
        let there = chunk_still (Accepted b (AppendedTo chunk)) (logged past) one.chunk (subst (λ (h : History). Contains (chunks_of h) one.chunk) (sym is) one.stands) in
        ends_taken true at (closes_if_full s chunk (logged at)) (tells_fills s K inner chunk at (record { chunk = one.chunk; stands = there; is = one.is }) then),
  )
  taken_appended b chunk past before None is store grows ready = (
    ready.0,
    λ answer.
        let at : Past = entry (Note IoFailed) answer ∷ past in
        let then = on (Note IoFailed) answer past tt tt ready in (
          then.0,
          λ more.
              let last : Past = entry (Note (Refused b NotStored)) more ∷ at in
              let due : FactAllowed s (Refused b NotStored) at = record { chunk = chunk; before = before; is = ap (λ (h : History). IoFailed ∷ h) is } in
              let ready_last = on (Note (Refused b NotStored)) more at tt due then in
              let one = open_one b chunk before grows in
              ends_taken false last (closes_chunk s chunk (logged last))
              (tells_shuts s K inner chunk last (record { chunk = one.chunk; stands = subst (λ (h : History). Contains (chunks_of h) one.chunk) (sym is) one.stands; is = one.is }) ready_last),
        ),
  )

  taken_placed : (b : Batch) (chunk : ℕ) (past : Past) (before : History) (answer : Option (Unit {0})) → logged past ≡ Offered chunk b ∷ before → IsToStore s b → StartsChunk b chunk before → Ready past
      → Taken past (finishes_create s b chunk (logged past) answer)
  taken_placed b chunk past before (Some done) is store begins ready = (
    ready.0,
    λ answer.
        let due : FactAllowed s (Accepted b (NewChunk chunk)) past = (store, record { before = before; is = is; stood = begins }) in
        let then = on (Note (Accepted b (NewChunk chunk))) answer past tt due ready in
        let at : Past = entry (Note (Accepted b (NewChunk chunk))) answer ∷ past in
        let made : ChunkInfo = record { number = chunk; input = Some b.input; tag = b.tag } in
        ends_taken true at (closes_if_full s chunk (logged at))
        (tells_fills s K inner chunk at (record { chunk = made; stands = Contains-append_right (chunks_of (logged past)) (made ∷ []) made (here made []); is = refl }) then),
  )
  taken_placed b chunk past before None is store begins ready = (
    ready.0,
    λ answer.
        taken_refuses b NotStored (entry (Note IoFailed) answer ∷ past) (record { chunk = chunk; before = before; is = ap (λ (h : History). IoFailed ∷ h) is }) (on (Note IoFailed) answer past tt tt ready),
  )

  taken_appends : (b : Batch) (chunk : ℕ) (past : Past) → IsToStore s b → AppendsTo b chunk (logged past) → Ready past → Taken past (appends s b chunk (logged past))
  unfolding appends
  taken_appends b chunk past store grows ready = (
    ready.0,
    λ answer.
        let at : Past = entry (Note (Offered chunk b)) answer ∷ past in
        taken_behind (append_to_program (kept_of s (logged past) chunk) (encoded b.events) s.service.full) at (λ done h. finishes_append s b chunk h done) (on (Note (Offered chunk b)) answer past tt (store, inr grows) ready)
        (λ done later grown same then. taken_appended b chunk later (logged past) done same store grows then),
  )

  taken_begins : (b : Batch) (chunk : ℕ) (past : Past) → IsToStore s b → StartsChunk b chunk (logged past) → Ready past → Taken past (starts_chunk s b chunk (logged past))
  unfolding starts_chunk
  taken_begins b chunk past store begins ready = (
    ready.0,
    λ answer.
        let at : Past = entry (Note (Offered chunk b)) answer ∷ past in
        taken_behind (begins_as (name_for s b.input chunk) b.tag (home_at s b.input) (encoded b.events) (names_for s b.tag)) at (λ done h. finishes_create s b chunk h done) (on (Note (Offered chunk b)) answer past tt (store, inl begins) ready)
        (λ done later grown same then. taken_placed b chunk later (logged past) done same store begins then),
  )

  taken_stores : (b : Batch) (c : Option ChunkInfo) (past : Past) → open_chunk (logged past) b.input b.tag ≡ c → IsToStore s b → Ready past → Taken past (stores s b c (logged past))
  taken_stores b (Some c) past is store ready = taken_appends b c.number past store (record { chunk_open = c; is = is; number = refl }) ready
  taken_stores b None past is store ready =
      walks_if (Allowed s) (λ (a : Acceptance) (now : Past). (a.history ≡ logged now) × K now) (nat_lt (next (logged past)) numbers_end) past (starts_chunk s b (next (logged past)) (logged past)) (refuses b NoNumber (logged past))
      (λ yes. taken_begins b (next (logged past)) past store (record { none = is; next_one = refl; left = yes }) ready)
      (λ no. taken_refuses b NoNumber past (is, no) ready)

  pub taken_accepts : (b : Batch) (past : Past) → Ready past → Taken past (accepts s b (logged past))
  unfolding accepts
  taken_accepts b past ready =
      let Q : Acceptance → Past → Type 0 = λ (a : Acceptance) (now : Past). (a.history ≡ logged now) × K now in
      let h : History = logged past in
      let kept : Action Acceptance = cond (is_storable b.events) (stores s b (open_chunk h b.input b.tag) h) (refuses b TooLarge h) in
      let routed : Action Acceptance = cond (is_empty (outputs_for s b.tag)) (note_then (Accepted b NoChunk) h taken) kept in
      walks_if (Allowed s) Q (is_empty b.events) past (taken h) routed (λ none. (ready.0, (refl, ready.1)))
      (λ some. walks_if (Allowed s) Q (is_empty (outputs_for s b.tag)) past (note_then (Accepted b NoChunk) h taken) kept
      (λ nobody. (ready.0, λ answer. let then = on (Note (Accepted b NoChunk)) answer past tt (some, nobody) ready in (then.0, (refl, then.1))))
      (λ wanted. walks_if (Allowed s) Q (is_storable b.events) past (stores s b (open_chunk h b.input b.tag) h) (refuses b TooLarge h)
      (λ fits. taken_stores b (open_chunk h b.input b.tag) past refl (record { some = some; wanted = wanted; fits = leb-true (length (encoded b.events)) largest_batch fits }) ready)
      (λ large. taken_refuses b TooLarge past (leb-false (length (encoded b.events)) largest_batch large) ready)))

  pub told_takes : (b : Batch) (past : Past) → Ready past → StepReturnsHistory past (ingests s b (logged past))
  unfolding ingests
  told_takes b past ready =
      walks_bind (Allowed s) (λ (a : Acceptance) (now : Past). (a.history ≡ logged now) × K now) (λ (h : History) (now : Past). (h ≡ logged now) × K now) past (accepts s b (logged past))
      (λ (a : Acceptance). Return a.history) (taken_accepts b past ready) (λ a now grown due is. (due, is))

  -- ---- input

  told_hangs_up : (conn : ℕ) (past : Past) → Ready past → StepReturnsHistory past (hangs_up conn (logged past))
  unfolding hangs_up
  told_hangs_up conn past ready = (
    ready.0,
    λ answer.
        let at : Past = entry (OnLoop (DropConn conn)) answer ∷ past in
        let then = on (OnLoop (DropConn conn)) answer past tt tt ready in
        (then.0, λ more. let last = on (Note (Disconnected conn)) more at tt refl then in (last.0, (refl, last.1))),
  )

  told_replied : (conn : ℕ) (next : History → Action History) (past : Past) (answer : Option (Unit {0})) → ((now : Past) → Ready now → StepReturnsHistory now (next (logged now))) → Ready past
      → StepReturnsHistory past (after_reply conn next (logged past) answer)
  told_replied conn next past (Some done) more ready = more past ready
  told_replied conn next past None more ready = told_hangs_up conn past ready

  told_replies : (conn : ℕ) (asked : Option (List ℕ)) (next : History → Action History) (past : Past) → ((now : Past) → Ready now → StepReturnsHistory now (next (logged now))) → Ready past
      → StepReturnsHistory past (replies conn asked next (logged past))
  told_replies conn None next past more ready = more past ready
  told_replies conn (Some bytes) next past more ready =
      (ready.0, λ answer. told_replied conn next (entry (OnLoop (Reply conn bytes)) answer ∷ past) answer more (on (OnLoop (Reply conn bytes)) answer past tt tt ready))

  told_answers : (conn : ℕ) (asked : Option (List ℕ)) (next : History → Action History) (yes : Bool) (past : Past) → ((now : Past) → Ready now → StepReturnsHistory now (next (logged now))) → Ready past
      → StepReturnsHistory past (acknowledges conn asked next (record { history = logged past; taken = yes }))
  told_answers conn asked next true past more ready = told_replies conn asked next past more ready
  told_answers conn asked next false past more ready = told_hangs_up conn past ready

  told_reads : (input conn : ℕ) (breaks : Bool) (ms : List MessageContent) (past : Past) → Ready past → StepReturnsHistory past (accepts_messages s input conn breaks ms (logged past))
  told_reads input conn false [] past ready = nothing past ready
  told_reads input conn true [] past ready =
      (ready.0, λ answer. told_hangs_up conn (entry (Note (Malformed input)) answer ∷ past) (on (Note (Malformed input)) answer past tt tt ready))
  told_reads input conn breaks (m ∷ ms) past ready =
      walks_bind (Allowed s) (λ (a : Acceptance) (now : Past). (a.history ≡ logged now) × K now) (λ (h : History) (now : Past). (h ≡ logged now) × K now) past (accepts s (message_batch s input m) (logged past))
      (acknowledges conn (reply_of m) (accepts_messages s input conn breaks ms)) (taken_accepts (message_batch s input m) past ready)
      (λ a now grown due is.
      subst (λ (h : History). StepReturnsHistory now (acknowledges conn (reply_of m) (accepts_messages s input conn breaks ms) (record { history = h; taken = a.taken }))) (sym is.0)
      (told_answers conn (reply_of m) (accepts_messages s input conn breaks ms) a.taken now (λ later then. told_reads input conn breaks ms later then) (due, is.1)))

  told_hears : (before : History) (input : ℕ) (bytes : List ℕ) (stream : Option Stream) (past : Past) → Ready past → StepReturnsHistory past (accepts_stream s before input bytes stream (logged past))
  told_hears before input bytes None past ready = nothing past ready
  told_hears before input bytes (Some (LineStream conn)) past ready = told_takes (piece_batch s before input (LineStream conn) bytes) past ready
  told_hears before input bytes (Some (MessageStream conn)) past ready = told_reads input conn (becomes_malformed (said s before (MessageStream conn)) bytes) (completed_messages (said s before (MessageStream conn)) bytes) past ready
  told_hears before input bytes (Some (Standard reader)) past ready = told_takes (piece_batch s before input (Standard reader) bytes) past ready

  pub told_pieces : (before : History) (input conn : ℕ) (bytes : List ℕ) (past : Past) → Ready past → StepReturnsHistory past (pieces s before input conn bytes (logged past))
  unfolding pieces
  told_pieces before input conn bytes past ready = told_hears before input bytes (stream_of s before input conn) past ready

  -- ---- polls

  told_polled : (input index : ℕ) (past : Past) (poll : Option Poll) → Ready past → StepReturnsHistory past (polled s input index (logged past) poll)
  told_polled input index past None ready = (ready.0, λ answer. let then = on (Note IoFailed) answer past tt tt ready in (then.0, (refl, then.1)))
  told_polled input index past (Some poll) ready = (
    ready.0,
    λ answer.
        told_takes (poll_batch s (logged past) input index poll) (entry (Note (Polled input index poll.long poll.bytes)) answer ∷ past) (on (Note (Polled input index poll.long poll.bytes)) answer past tt tt ready),
  )

  told_behind_files : {R : Type 0} (p : FilesProgram R) (past : Past) (next : R → History → Action History) → Ready past
      → ((x : R) (now : Past) → Ready now → StepReturnsHistory now (next x (logged now))) → StepReturnsHistory past (bind (on_files p) (λ (x : R). next x (logged past)))
  told_behind_files (Return x) past next ready more = more x past ready
  told_behind_files (Ask call go) past next ready more =
      (ready.0, λ answer. told_behind_files (go answer) (entry (OnFiles call) answer ∷ past) next (on (OnFiles call) answer past tt tt ready) more)

  told_polls_file : (input index : ℕ) (path : List ℕ) (past : Past) → Ready past → StepReturnsHistory past (polls_file s input index path (logged past))
  unfolding polls_file
  told_polls_file input index path past ready =
      told_behind_files (polls_of path (from_head_at s input) (file_at s (logged past) input index).place) past (λ poll h. polled s input index h poll) ready (λ poll now then. told_polled input index now poll then)

  told_polls_files : (input index : ℕ) (paths : List (List ℕ)) (past : Past) → Ready past → StepReturnsHistory past (polls_files s input index paths (logged past))
  told_polls_files input index [] past ready = nothing past ready
  told_polls_files input index (path ∷ paths) past ready =
      told_then past (polls_file s input index path (logged past)) (polls_files s input (index + 1) paths) (told_polls_file input index path past ready)
      (λ now grown then. told_polls_files input (index + 1) paths now then)

  told_follows : (input : ℕ) (past : Past) → Ready past → StepReturnsHistory past (polls_input s input (logged past))
  unfolding polls_input
  told_follows input past ready =
      walks_if (Allowed s) (λ (h : History) (now : Past). (h ≡ logged now) × K now) (is_paused s (logged past) input) past (Return (logged past)) (polls_files s input 0 (paths_at s input) (logged past))
      (λ yes. nothing past ready) (λ no. told_polls_files input 0 (paths_at s input) past ready)

  told_follows_each : (inputs : List ℕ) (past : Past) → Ready past → StepReturnsHistory past (polls_inputs s inputs (logged past))
  told_follows_each [] past ready = nothing past ready
  told_follows_each (input ∷ inputs) past ready =
      told_then past (polls_input s input (logged past)) (polls_inputs s inputs) (told_follows input past ready) (λ now grown then. told_follows_each inputs now then)

  pub told_follows_all : (past : Past) → Ready past → StepReturnsHistory past (polls_all s (logged past))
  unfolding polls_all
  told_follows_all past ready = told_follows_each (range_with_len 0 (length s.inputs)) past ready

  -- ---- steps

  told_walks : (closing : Bool) (past : Past) → Ready past → StepReturnsHistory past (closes_and_dispatches s closing (logged past))
  unfolding closes_and_dispatches
  told_walks true past ready = told_then past (closes_all s (logged past)) (walk s) (tells_closes_all s K inner past ready) (λ now grown then. tells_walk s K inner now then)
  told_walks false past ready = tells_walk s K inner past ready

  told_ticks : (closing : Bool) (past : Past) → Ready past → StepReturnsHistory past (ticks s closing (logged past))
  unfolding ticks
  told_ticks closing past ready = told_then past (polls_all s (logged past)) (closes_and_dispatches s closing) (told_follows_all past ready) (λ now grown then. told_walks closing now then)

  told_stops : (before : Option ℕ) (past : Past) → Ready past → StepReturnsHistory past (stops s before (logged past))
  unfolding stops
  told_stops (Some at) past ready = nothing past ready
  told_stops None past ready = told_walks true past ready

  told_finishes : (before : History) (input : ℕ) (past : Past) → Ready past → StepReturnsHistory past (at_input_end s before input (logged past))
  unfolding at_input_end
  told_finishes before input past ready =
      walks_if (Allowed s) (λ (h : History) (now : Past). (h ≡ logged now) × K now) (reads_stdin_at s input) past
      (bind (ingests s (end_batch s before input (Standard input)) (logged past)) (stops s (stopped s before))) (Return (logged past))
      (λ yes. told_then past (ingests s (end_batch s before input (Standard input)) (logged past)) (stops s (stopped s before)) (told_takes (end_batch s before input (Standard input)) past ready)
      (λ now grown then. told_stops (stopped s before) now then))
      (λ no. nothing past ready)

  pub told_happens : (before : History) (brought : Happening) (past : Past) → Ready past → StepReturnsHistory past (handles s before brought (logged past))
  told_happens before (happening.Tick now) past ready = told_ticks (is_close_due s before now) past ready
  told_happens before (happening.Joined input conn) past ready = nothing past ready
  told_happens before (happening.Piece input conn bytes) past ready = told_pieces before input.0 conn.0 bytes past ready
  told_happens before (happening.Gone input conn) past ready = nothing past ready
  told_happens before (happening.Room link) past ready = tells_has_room s K inner link.0 past ready
  told_happens before (happening.Back link bytes) past ready = tells_comes_back s K inner link.0 bytes past ready
  told_happens before (happening.Broken link) past ready = tells_has_broken s K inner link.0 past ready
  told_happens before (happening.InputEnd input) past ready = told_finishes before input.0 past ready
  told_happens before happening.Stop past ready = told_stops (stopped s before) past ready
  told_happens before happening.End past ready = nothing past ready
  told_happens before happening.Failed past ready = nothing past ready
