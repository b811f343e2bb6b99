-- Traversal of a run, fact by fact: acceptance, reads, polls, steps, and the run itself.
use Rattle.std.proofs.Common.{◌≡◌, ℕ, zero, suc, ◌+◌, nat_lt, Bool, true, false, List, [], ◌∷◌, length, Option, Some, None, refl, sym, subst}
use Rattle.std.specs.Prelude.{Contains}
use Rattle.std.specs.List.{range_with_len}
use Rattle.fwd_base.specs.Limits.{numbers_end}
use Rattle.fwd_outside.specs.Program.{Return, bind, Execution}
use Rattle.fwd_outside.specs.declared.ends.Ends.{Ends}
use Rattle.fwd_outside.specs.declared.happening.Happening.{Happening}
use Rattle.fwd_outside.specs.declared.happening.Happening.TheVariants as happening
use Rattle.fwd_in_tail.specs.Followed.{Polled as Poll, polls as polls_of}
use Rattle.fwd_wire.specs.Message.{MessageContent}
use Rattle.fwd_store.specs.Store.{begins_as, append_to_program}
use Rattle.fwd_backlog.specs.declared.file_read.FileRead.{FileRead}
use Rattle.fwd_backlog.specs.LoadProgram.{load_program}
use Rattle.fwd_settings.specs.declared.settings_types.AllSettings.{AllSettings}
use Rattle.fwd_model.specs.Fact.{History, Route, Stream, LineStream, MessageStream, Standard, Batch, NoChunk, NewChunk, AppendedTo, Reason, TooLarge, NoNumber, NotStored, Happened, Resumed, Saved, Polled, Disconnected, Malformed, Found, Offered, Accepted, Refused, Marked, IoFailed}
use Rattle.fwd_model.specs.Trace.{Action, TraceEntry, history_after}
use Rattle.fwd_model.specs.DeviceActions.{on_disk}
use Rattle.fwd_model.specs.Settings.{outputs_for, home_at, names_for, paths_at, from_head_at, reads_stdin_at}
use Rattle.fwd_model.specs.Clock.{stopped, is_close_due}
use Rattle.fwd_model.specs.Streams.{stream_of, said}
use Rattle.fwd_model.specs.FollowedFiles.{file_at, settled}
use Rattle.fwd_model.specs.Batches.{piece_batch, end_batch, poll_batch}
use Rattle.fwd_model.specs.Messages.{completed_messages, becomes_malformed, message_batch, reply_of}
use Rattle.fwd_model.specs.Chunks.{ChunkInfo, open_chunk, next, encoded, is_storable}
use Rattle.fwd_model.specs.ChunkStorage.{kept_of, name_for}
use Rattle.fwd_model.specs.Routes.{flight}
use Rattle.fwd_model.specs.Limits.{is_paused}
use Rattle.fwd_model.specs.Notes.{note_then, is_empty}
use Rattle.fwd_model.specs.CloseActions.{closes_chunk, closes_if_full, closes_all}
use Rattle.fwd_model.specs.Acceptance.{Acceptance, taken, ends_refused, refuses, finishes_append, finishes_create, appends, starts_chunk, stores, accepts, ingests}
use Rattle.fwd_model.specs.FlushActions.{walk}
use Rattle.fwd_model.specs.InputActions.{hangs_up, after_reply, replies, acknowledges, accepts_messages, accepts_stream, pieces, polled, polls_file, polls_files, polls_input, polls_inputs, polls_all}
use Rattle.fwd_model.specs.StepActions.{closes_and_dispatches, ticks, stops, at_input_end, handles, step}
use Rattle.fwd_model.specs.RecoveryActions.{notes_files, loaded, loads_from, recovers}
use Rattle.fwd_model.specs.KeptOffsets.{Tracked, tracked, kept_at, to_put, indexes_from, resumes, got, gets, after_put, puts_by, puts}
use Rattle.fwd_model.specs.Run.{RunResult, Over, KeeperFailed, lived, is_over, goes_on, steps_on, is_last_tick, unless_last, after_step, brought, run, after_start, starts, after_recovery, life}
use Rattle.fwd_theorem_trace.specs.Past.{logged, past_after}
use Rattle.fwd_theorem_trace.specs.Resolution.{WasRecoveredDone}
use Rattle.fwd_theorem_trace.proofs.Traversal.{noted_since}
use Rattle.fwd_theorem_trace.proofs.Run.{due_since}
use Rattle.fwd_theorem_crash.specs.RecordedOutcomes.{is_recorded}
use Rattle.fwd_theorem_crash.proofs.RecordedFacts.{RecordedLasts, noted_lasts, found_lasts}
use Rattle.fwd_theorem_crash.proofs.FlushFacts.{Runs, RunsToHistory, lasts_now, runs_on, runs_bind, runs_if, runs_then, disk_then, files_then, notes, only, tells_shuts, tells_fills, tells_closes_all, tells_walk, tells_has_room, tells_comes_back, tells_has_broken}

module _ (s : AllSettings) where
  abbrev Told : History → History → Type 0
  Told x now = x ≡ now

  -- an acceptance returns the history so far
  abbrev ToldBy : Acceptance → History → Type 0
  ToldBy a now = a.history ≡ now

  abbrev Takes : History → Action Acceptance → Type 0
  Takes h p = Runs s ToldBy h p

  takes_refuses : (b : Batch) (why : Reason) (h : History) → RecordedLasts s h → Takes h (refuses b why h)
  takes_refuses b why h lasts = notes s ToldBy (Refused b why) h ends_refused tt lasts (λ sound then. (then, refl))

  takes_appended : (b : Batch) (chunk : ℕ) (h : History) (answer : Option (Unit {0})) → RecordedLasts s h → Takes h (finishes_append s b chunk h answer)
  takes_appended b chunk h (Some done) lasts =
      notes s ToldBy (Accepted b (AppendedTo chunk)) h (λ at. bind (closes_if_full s chunk at) taken) tt lasts
      (λ sound then.
      let at : History = Accepted b (AppendedTo chunk) ∷ h in
      runs_then s ToldBy at (closes_if_full s chunk at) taken (tells_fills s chunk at then) (λ now last. (last, refl)))
  takes_appended b chunk h None lasts =
      notes s ToldBy IoFailed h (λ at. note_then (Refused b NotStored) at (λ last. bind (closes_chunk s chunk last) ends_refused)) tt lasts
      (λ sound then.
      notes s ToldBy (Refused b NotStored) (IoFailed ∷ h) (λ last. bind (closes_chunk s chunk last) ends_refused) tt then
      (λ sound2 then2.
      let at : History = Refused b NotStored ∷ IoFailed ∷ h in
      runs_then s ToldBy at (closes_chunk s chunk at) ends_refused (tells_shuts s chunk at then2) (λ now last. (last, refl))))

  takes_placed : (b : Batch) (chunk : ℕ) (h : History) (answer : Option (Unit {0})) → RecordedLasts s h → Takes h (finishes_create s b chunk h answer)
  takes_placed b chunk h (Some done) lasts =
      notes s ToldBy (Accepted b (NewChunk chunk)) h (λ at. bind (closes_if_full s chunk at) taken) tt lasts
      (λ sound then.
      let at : History = Accepted b (NewChunk chunk) ∷ h in
      runs_then s ToldBy at (closes_if_full s chunk at) taken (tells_fills s chunk at then) (λ now last. (last, refl)))
  takes_placed b chunk h None lasts = notes s ToldBy IoFailed h (refuses b NotStored) tt lasts (λ sound then. takes_refuses b NotStored (IoFailed ∷ h) then)

  takes_appends : (b : Batch) (chunk : ℕ) (h : History) → RecordedLasts s h → Takes h (appends s b chunk h)
  unfolding appends
  takes_appends b chunk h lasts =
      notes s ToldBy (Offered chunk b) h (λ at. bind (on_disk (append_to_program (kept_of s h chunk) (encoded b.events) s.service.full)) (finishes_append s b chunk at)) tt lasts
      (λ sound then.
      let at : History = Offered chunk b ∷ h in
      disk_then s ToldBy at (append_to_program (kept_of s h chunk) (encoded b.events) s.service.full) (finishes_append s b chunk at) then (λ answer. takes_appended b chunk at answer then))

  takes_begins : (b : Batch) (chunk : ℕ) (h : History) → RecordedLasts s h → Takes h (starts_chunk s b chunk h)
  unfolding starts_chunk
  takes_begins b chunk h lasts =
      notes s ToldBy (Offered chunk b) h (λ at. bind (on_disk (begins_as (name_for s b.input chunk) b.tag (home_at s b.input) (encoded b.events) (names_for s b.tag))) (finishes_create s b chunk at)) tt lasts
      (λ sound then.
      let at : History = Offered chunk b ∷ h in
      disk_then s ToldBy at (begins_as (name_for s b.input chunk) b.tag (home_at s b.input) (encoded b.events) (names_for s b.tag)) (finishes_create s b chunk at) then
      (λ answer. takes_placed b chunk at answer then))

  takes_stores : (b : Batch) (c : Option ChunkInfo) (h : History) → RecordedLasts s h → Takes h (stores s b c h)
  takes_stores b (Some c) h lasts = takes_appends b c.number h lasts
  takes_stores b None h lasts =
      runs_if s ToldBy (nat_lt (next h) numbers_end) h (starts_chunk s b (next h) h) (refuses b NoNumber h) (λ yes. takes_begins b (next h) h lasts) (λ no. takes_refuses b NoNumber h lasts)

  takes_accepts : (b : Batch) (h : History) → RecordedLasts s h → Takes h (accepts s b h)
  unfolding accepts
  takes_accepts b h lasts =
      runs_if s ToldBy (is_empty b.events) h (taken h) _ (λ none. (lasts, refl))
      (λ some.
      runs_if s ToldBy (is_empty (outputs_for s b.tag)) h (note_then (Accepted b NoChunk) h taken) _ (λ nobody. notes s ToldBy (Accepted b NoChunk) h taken tt lasts (λ sound then. (then, refl)))
      (λ wanted.
      runs_if s ToldBy (is_storable b.events) h (stores s b (open_chunk h b.input b.tag) h) (refuses b TooLarge h) (λ fits. takes_stores b (open_chunk h b.input b.tag) h lasts)
      (λ large. takes_refuses b TooLarge h lasts)))

  -- an acceptance, and then the continuation of the history so far
  tells_takes : (b : Batch) (h : History) → RecordedLasts s h → RunsToHistory s h (ingests s b h)
  unfolding ingests
  tells_takes b h lasts = runs_bind s ToldBy Told h (accepts s b h) (λ (a : Acceptance). Return a.history) (takes_accepts b h lasts) (λ a now then is. (then, is))

  -- ---- input

  tells_hangs_up : (conn : ℕ) (h : History) → RecordedLasts s h → RunsToHistory s h (hangs_up conn h)
  unfolding hangs_up
  tells_hangs_up conn h lasts = (lasts, λ answer sound. only s (Disconnected conn) h tt lasts)

  tells_replied : (conn : ℕ) (next : History → Action History) (h : History) (answer : Option (Unit {0})) → ((now : History) → RecordedLasts s now → RunsToHistory s now (next now)) → RecordedLasts s h → RunsToHistory s h (after_reply conn next h answer)
  tells_replied conn next h (Some done) more lasts = more h lasts
  tells_replied conn next h None more lasts = tells_hangs_up conn h lasts

  tells_replies : (conn : ℕ) (asked : Option (List ℕ)) (next : History → Action History) (h : History) → ((now : History) → RecordedLasts s now → RunsToHistory s now (next now)) → RecordedLasts s h → RunsToHistory s h (replies conn asked next h)
  tells_replies conn None next h more lasts = more h lasts
  tells_replies conn (Some bytes) next h more lasts = (lasts, λ answer sound. tells_replied conn next h answer more lasts)

  tells_answers : (conn : ℕ) (asked : Option (List ℕ)) (next : History → Action History) (yes : Bool) (h : History) → ((now : History) → RecordedLasts s now → RunsToHistory s now (next now)) → RecordedLasts s h
      → RunsToHistory s h (acknowledges conn asked next (record { history = h; taken = yes }))
  tells_answers conn asked next true h more lasts = tells_replies conn asked next h more lasts
  tells_answers conn asked next false h more lasts = tells_hangs_up conn h lasts

  tells_reads : (input conn : ℕ) (breaks : Bool) (ms : List MessageContent) (h : History) → RecordedLasts s h → RunsToHistory s h (accepts_messages s input conn breaks ms h)
  tells_reads input conn false [] h lasts = (lasts, refl)
  tells_reads input conn true [] h lasts = notes s Told (Malformed input) h (hangs_up conn) tt lasts (λ sound then. tells_hangs_up conn (Malformed input ∷ h) then)
  tells_reads input conn breaks (m ∷ ms) h lasts =
      let go : Acceptance → Action History = acknowledges conn (reply_of m) (accepts_messages s input conn breaks ms) in
      runs_bind s ToldBy Told h (accepts s (message_batch s input m) h) go (takes_accepts (message_batch s input m) h lasts)
      (λ a now then is.
      subst (λ (x : History). RunsToHistory s now (go (record { history = x; taken = a.taken }))) (sym is)
      (tells_answers conn (reply_of m) (accepts_messages s input conn breaks ms) a.taken now (λ later last. tells_reads input conn breaks ms later last) then))

  tells_hears : (before : History) (input : ℕ) (bytes : List ℕ) (stream : Option Stream) (h : History) → RecordedLasts s h → RunsToHistory s h (accepts_stream s before input bytes stream h)
  tells_hears before input bytes None h lasts = (lasts, refl)
  tells_hears before input bytes (Some (LineStream conn)) h lasts = tells_takes (piece_batch s before input (LineStream conn) bytes) h lasts
  tells_hears before input bytes (Some (MessageStream conn)) h lasts = tells_reads input conn (becomes_malformed (said s before (MessageStream conn)) bytes) (completed_messages (said s before (MessageStream conn)) bytes) h lasts
  tells_hears before input bytes (Some (Standard reader)) h lasts = tells_takes (piece_batch s before input (Standard reader) bytes) h lasts

  tells_pieces : (before : History) (input conn : ℕ) (bytes : List ℕ) (h : History) → RecordedLasts s h → RunsToHistory s h (pieces s before input conn bytes h)
  unfolding pieces
  tells_pieces before input conn bytes h lasts = tells_hears before input bytes (stream_of s before input conn) h lasts

  -- ---- polls

  tells_polled : (input index : ℕ) (h : History) (poll : Option Poll) → RecordedLasts s h → RunsToHistory s h (polled s input index h poll)
  tells_polled input index h None lasts = only s IoFailed h tt lasts
  tells_polled input index h (Some poll) lasts =
      notes s Told (Polled input index poll.long poll.bytes) h (ingests s (poll_batch s h input index poll)) tt lasts
      (λ sound then. tells_takes (poll_batch s h input index poll) (Polled input index poll.long poll.bytes ∷ h) then)

  tells_polls_file : (input index : ℕ) (path : List ℕ) (h : History) → RecordedLasts s h → RunsToHistory s h (polls_file s input index path h)
  unfolding polls_file
  tells_polls_file input index path h lasts =
      files_then s Told h (polls_of path (from_head_at s input) (file_at s h input index).place) (polled s input index h) lasts (λ poll. tells_polled input index h poll lasts)

  tells_polls_files : (input index : ℕ) (paths : List (List ℕ)) (h : History) → RecordedLasts s h → RunsToHistory s h (polls_files s input index paths h)
  tells_polls_files input index [] h lasts = (lasts, refl)
  tells_polls_files input index (path ∷ paths) h lasts =
      runs_then s Told h (polls_file s input index path h) (polls_files s input (index + 1) paths) (tells_polls_file input index path h lasts) (λ now then. tells_polls_files input (index + 1) paths now then)

  tells_follows : (input : ℕ) (h : History) → RecordedLasts s h → RunsToHistory s h (polls_input s input h)
  unfolding polls_input
  tells_follows input h lasts =
      runs_if s Told (is_paused s h input) h (Return h) (polls_files s input 0 (paths_at s input) h) (λ yes. (lasts, refl)) (λ no. tells_polls_files input 0 (paths_at s input) h lasts)

  tells_follows_each : (inputs : List ℕ) (h : History) → RecordedLasts s h → RunsToHistory s h (polls_inputs s inputs h)
  tells_follows_each [] h lasts = (lasts, refl)
  tells_follows_each (input ∷ inputs) h lasts = runs_then s Told h (polls_input s input h) (polls_inputs s inputs) (tells_follows input h lasts) (λ now then. tells_follows_each inputs now then)

  tells_follows_all : (h : History) → RecordedLasts s h → RunsToHistory s h (polls_all s h)
  unfolding polls_all
  tells_follows_all h lasts = tells_follows_each (range_with_len 0 (length s.inputs)) h lasts

  -- ---- steps

  tells_walks : (closing : Bool) (h : History) → RecordedLasts s h → RunsToHistory s h (closes_and_dispatches s closing h)
  unfolding closes_and_dispatches
  tells_walks true h lasts = runs_then s Told h (closes_all s h) (walk s) (tells_closes_all s h lasts) (λ now then. tells_walk s now then)
  tells_walks false h lasts = tells_walk s h lasts

  tells_ticks : (closing : Bool) (h : History) → RecordedLasts s h → RunsToHistory s h (ticks s closing h)
  unfolding ticks
  tells_ticks closing h lasts = runs_then s Told h (polls_all s h) (closes_and_dispatches s closing) (tells_follows_all h lasts) (λ now then. tells_walks closing now then)

  tells_stops : (before : Option ℕ) (h : History) → RecordedLasts s h → RunsToHistory s h (stops s before h)
  unfolding stops
  tells_stops (Some at) h lasts = (lasts, refl)
  tells_stops None h lasts = tells_walks true h lasts

  tells_finishes : (before : History) (input : ℕ) (h : History) → RecordedLasts s h → RunsToHistory s h (at_input_end s before input h)
  unfolding at_input_end
  tells_finishes before input h lasts =
      let ended : Batch = end_batch s before input (Standard input) in
      runs_if s Told (reads_stdin_at s input) h (bind (ingests s ended h) (stops s (stopped s before))) (Return h)
      (λ yes. runs_then s Told h (ingests s ended h) (stops s (stopped s before)) (tells_takes ended h lasts) (λ now then. tells_stops (stopped s before) now then)) (λ no. (lasts, refl))

  tells_happens : (before : History) (brought : Happening) (h : History) → RecordedLasts s h → RunsToHistory s h (handles s before brought h)
  tells_happens before (happening.Tick now) h lasts = tells_ticks (is_close_due s before now) h lasts
  tells_happens before (happening.Joined input conn) h lasts = (lasts, refl)
  tells_happens before (happening.Piece input conn bytes) h lasts = tells_pieces before input.0 conn.0 bytes h lasts
  tells_happens before (happening.Gone input conn) h lasts = (lasts, refl)
  tells_happens before (happening.Room link) h lasts = tells_has_room s link.0 h lasts
  tells_happens before (happening.Back link bytes) h lasts = tells_comes_back s link.0 bytes h lasts
  tells_happens before (happening.Broken link) h lasts = tells_has_broken s link.0 h lasts
  tells_happens before (happening.InputEnd input) h lasts = tells_finishes before input.0 h lasts
  tells_happens before happening.Stop h lasts = tells_stops (stopped s before) h lasts
  tells_happens before happening.End h lasts = (lasts, refl)
  tells_happens before happening.Failed h lasts = (lasts, refl)

  tells_step : (brings : Happening) (h : History) → RecordedLasts s h → RunsToHistory s h (step s brings h)
  unfolding step
  tells_step brings h lasts = notes s Told (Happened brings) h (handles s h brings) tt lasts (λ sound then. tells_happens h brings (Happened brings ∷ h) then)

  -- ---- a run

  abbrev Any : RunResult → History → Type 0
  Any end now = Unit {0}

  abbrev Lives : History → Action RunResult → Type 0
  Lives h p = Runs s Any h p

  abbrev Goes : (History → Action RunResult) → Type 0
  Goes next = (now : History) → RecordedLasts s now → Lives now (next now)

  -- offsets are got and put
  put_on : (t : Tracked) (place : ℕ) (next : History → Action RunResult) (answer : Option (Unit {0})) → Goes next → Goes (λ (h : History). after_put t place next h answer)
  put_on t place next None more h lasts = more h lasts
  put_on t place next (Some done) more h lasts = notes s Any (Saved t.input t.index place) h next tt lasts (λ sound then. more (Saved t.input t.index place ∷ h) then)

  puts_on : (ts : List Tracked) (next : History → Action RunResult) → Goes next → Goes (puts s ts next)
  puts_on [] next more h lasts = more h lasts
  puts_on (t ∷ ts) next more h lasts = by (to_put (settled s h t.input t.index) (kept_at h t.input t.index)) (puts_on ts next more)
    where
      by : (place : Option ℕ) → Goes (puts s ts next) → Lives h (puts_by t place (puts s ts next) h)
      by None rest = rest h lasts
      by (Some place) rest = (lasts, λ answer sound. put_on t place (puts s ts next) answer rest h lasts)

  resumes_on : (input place : ℕ) (indexes : List ℕ) (next : History → Action RunResult) → Goes next → Goes (resumes input place indexes next)
  resumes_on input place [] next more h lasts = more h lasts
  resumes_on input place (index ∷ indexes) next more h lasts =
      notes s Any (Resumed input index place) h (resumes input place indexes next) tt lasts (λ sound then. resumes_on input place indexes next more (Resumed input index place ∷ h) then)

  got_on : (t : Tracked) (failed next : History → Action RunResult) (answer : Option (Option ℕ)) → Goes failed → Goes next → Goes (λ (h : History). got s t failed next h answer)
  got_on t failed next None ends more h lasts = ends h lasts
  got_on t failed next (Some None) ends more h lasts = more h lasts
  got_on t failed next (Some (Some place)) ends more h lasts = resumes_on t.input place (indexes_from 0 t.path (paths_at s t.input)) next more h lasts

  gets_on : (ts : List Tracked) (failed next : History → Action RunResult) → Goes failed → Goes next → Goes (gets s ts failed next)
  gets_on [] failed next ends more h lasts = more h lasts
  gets_on (t ∷ ts) failed next ends more h lasts = (lasts, λ answer sound. got_on t failed (gets s ts failed next) answer ends (gets_on ts failed next ends more) h lasts)

  lives_on : (next : History → Action RunResult) (brings : Happening) → Goes next → Goes (goes_on s next brings)
  lives_on next brings more h lasts = runs_if s Any (is_over s brings h) h (Return (lived h Over)) (next h) (λ over. (lasts, tt)) (λ on. more h lasts)

  lives_step : (next : History → Action RunResult) (brings : Happening) (h : History) → Goes next → RecordedLasts s h → Lives h (steps_on s next brings h)
  lives_step next brings h more lasts = runs_then s Any h (step s brings h) (goes_on s next brings) (tells_step brings h lasts) (lives_on next brings more)

  lives_unless_last : (ticks : Option ℕ) (next : History → Action RunResult) (brings : Happening) (h : History) → Goes next → RecordedLasts s h → Lives h (unless_last s ticks next brings h)
  lives_unless_last ticks next brings h more lasts =
      runs_if s Any (is_last_tick s ticks brings h) h (steps_on s next happening.Stop h) (next h) (λ last. lives_step next happening.Stop h more lasts) (λ no. more h lasts)

  lives_brought : (ticks : Option ℕ) (next : History → Action RunResult) (h : History) (brings : Happening) → Goes next → RecordedLasts s h → Lives h (brought s ticks next h brings)
  lives_brought ticks next h happening.Failed more lasts = (lasts, tt)
  lives_brought ticks next h brings more lasts =
      let rest : History → Action RunResult = unless_last s ticks next brings in
      runs_then s Any h (step s brings h) (after_step s ticks next brings) (tells_step brings h lasts)
      (puts_on (tracked s) (goes_on s rest brings) (lives_on rest brings (λ now then. lives_unless_last ticks next brings now more then)))

  lives_run : (ticks : Option ℕ) (turns : ℕ) (h : History) → RecordedLasts s h → Lives h (run s ticks turns h)
  unfolding run
  lives_run ticks zero h lasts = (lasts, tt)
  lives_run ticks (suc turns) h lasts = (lasts, λ brings sound. lives_brought ticks (run s ticks turns) h brings (λ now then. lives_run ticks turns now then) lasts)

  lives_started : (ticks : Option ℕ) (turns : ℕ) (h : History) (ready : Option (Unit {0})) → RecordedLasts s h → Lives h (after_start s ticks turns h ready)
  lives_started ticks turns h None lasts = (lasts, tt)
  lives_started ticks turns h (Some ready) lasts = lives_run ticks turns h lasts

  -- what was recovered, if the disk didn't fail
  abbrev Loaded : Option History → History → Type 0
  Loaded None now = Unit {0}
  Loaded (Some h) now = h ≡ now

  loads_finds : (number : ℕ) (files : List FileRead) (h : History) → ((r : Route) → flight h r ≡ None) → RecordedLasts s h → Runs s Loaded h (notes_files number files h)
  loads_finds number [] h none lasts = (lasts, refl)
  loads_finds number (read ∷ files) h none lasts =
      let fact = Found number read.file.stream read.file.name read.bytes in
      notes s Loaded fact h (notes_files (number + 1) files) none lasts (λ sound then. loads_finds (number + 1) files (fact ∷ h) none then)

  loads_read : (found : Option (List FileRead)) → RecordedLasts s [] → Runs s Loaded [] (loaded found)
  loads_read None lasts = (lasts, tt)
  loads_read (Some files) lasts = loads_finds 1 files [] (λ r. refl) lasts

  loads_root : (root : Option (List ℕ)) → RecordedLasts s [] → Runs s Loaded [] (loads_from root)
  loads_root None lasts = (lasts, refl)
  loads_root (Some root) lasts = disk_then s Loaded [] (load_program root) loaded lasts (λ found. loads_read found lasts)

  lasts_first : RecordedLasts s []
  lasts_first = record { resolved = λ r was. absurd (cc was); recorded = λ r. refl; flying = λ r p is. absurd (cc is) }

  lives_begun : (ends : Ends) (ticks : Option ℕ) (turns : ℕ) (found : Option History) (h : History) → RecordedLasts s h → Loaded found h → Lives h (after_recovery s ends ticks turns found)
  lives_begun ends ticks turns None h lasts is = (lasts, tt)
  lives_begun ends ticks turns (Some found) h lasts is =
      subst (λ (x : History). Lives h (after_recovery s ends ticks turns (Some x))) (sym is)
      (gets_on (tracked s) (λ (now : History). Return (lived now KeeperFailed)) (starts s ends ticks turns) (λ now then. (then, tt)) (λ now then. (then, λ ready sound. lives_started ticks turns now ready then)) h lasts)

  lives : (ends : Ends) (ticks : Option ℕ) (turns : ℕ) → Lives [] (life s ends ticks turns)
  unfolding life recovers
  lives ends ticks turns =
      runs_bind s Loaded Any [] (recovers s) (after_recovery s ends ticks turns) (loads_root s.service.path lasts_first) (λ found h lasts is. lives_begun ends ticks turns found h lasts is)

  lasts_since : (ends : Ends) (ticks : Option ℕ) (turns : ℕ) (es : List TraceEntry) (left : Action RunResult) → Execution (life s ends ticks turns) es left → RecordedLasts s (history_after es [])
  lasts_since ends ticks turns es left way =
      subst (RecordedLasts s) (noted_since [] es)
      (lasts_now s Any (logged (past_after [] es)) left (runs_on s Any [] (life s ends ticks turns) (lives ends ticks turns) es left way (due_since s ends ticks turns es left way)))

  pub noted_stays : (ends : Ends) (ticks : Option ℕ) (turns : ℕ) (es : List TraceEntry) (left : Action RunResult) (r : Route) → Execution (life s ends ticks turns) es left
      → Contains (history_after es []) (Marked r) → is_recorded s (history_after es []) r ≡ true
  noted_stays ends ticks turns es left r way has = noted_lasts s (history_after es []) r (lasts_since ends ticks turns es left way) has

  pub found_stays : (ends : Ends) (ticks : Option ℕ) (turns : ℕ) (es : List TraceEntry) (left : Action RunResult) (r : Route) → Execution (life s ends ticks turns) es left
      → WasRecoveredDone s (history_after es []) r → is_recorded s (history_after es []) r ≡ true
  found_stays ends ticks turns es left r way was = found_lasts s (history_after es []) r (lasts_since ends ticks turns es left way) was
