-- Each step of a run keeps the invariants of all flushes.
use Rattle.std.proofs.Common.{◌≡◌, ◌⊎◌, ℕ, ◌+◌, Bool, true, false, cond, List, [], ◌∷◌, length, Option, Some, None, inl, inr, refl, sym, subst}
use Rattle.std.specs.Prelude.{◌==◌}
use Rattle.std.specs.List.{range_with_len}
use Rattle.std.proofs.lemmas.Bool.{eq-eqb, ne_eqb}
use Rattle.fwd_outside.specs.Program.{entry, Return, Ask, bind}
use Rattle.fwd_outside.specs.Loop.{Wait, Reply}
use Rattle.fwd_outside.specs.Files.{FilesProgram}
use Rattle.fwd_outside.specs.declared.happening.Happening.{Happening}
use Rattle.fwd_outside.specs.declared.happening.Happening.TheVariants as happening
use Rattle.fwd_in_tail.specs.Followed.{Polled as Poll, polls as polls_of}
use Rattle.fwd_wire.specs.Message.{MessageContent}
use Rattle.fwd_flush.specs.Outcome.{Room, Back, Broken, Replied, LinkBroke}
use Rattle.fwd_settings.specs.declared.settings_types.AllSettings.{AllSettings}
use Rattle.fwd_model.specs.Fact.{History, Stream, LineStream, MessageStream, Standard, Batch, Happened, Polled, Malformed}
use Rattle.fwd_model.specs.Trace.{Action}
use Rattle.fwd_model.specs.DeviceActions.{on_files}
use Rattle.fwd_model.specs.Settings.{paths_at, from_head_at, reads_stdin_at}
use Rattle.fwd_model.specs.Clock.{stopped, is_close_due}
use Rattle.fwd_model.specs.Streams.{stream_of, said}
use Rattle.fwd_model.specs.FollowedFiles.{file_at}
use Rattle.fwd_model.specs.Batches.{piece_batch, end_batch, poll_batch}
use Rattle.fwd_model.specs.Messages.{completed_messages, becomes_malformed, message_batch, reply_of}
use Rattle.fwd_model.specs.Limits.{is_paused}
use Rattle.fwd_model.specs.CloseActions.{closes_all}
use Rattle.fwd_model.specs.Acceptance.{Acceptance, accepts, ingests}
use Rattle.fwd_model.specs.FlushActions.{walk, at_room, at_reply, at_break}
use Rattle.fwd_model.specs.InputActions.{hangs_up, after_reply, replies, acknowledges, accepts_messages, accepts_stream, pieces, polled, polls_file, polls_files, polls_input, polls_inputs, polls_all}
use Rattle.fwd_model.specs.StepActions.{closes_and_dispatches, ticks, stops, at_input_end, handles, step}
use Rattle.fwd_theorem_delivery.specs.Links.{event_on}
use Rattle.fwd_theorem_delivery.proofs.Outcomes.{Now, asked, noted, Ends, ends_bind}
use Rattle.fwd_theorem_delivery.proofs.RunInvariant.{RunInvariant, whole_fact, whole_aside}
use Rattle.fwd_theorem_delivery.proofs.QuietActions.{SameTaken, quietly_accepts, quietly_closes_all}
use Rattle.fwd_theorem_delivery.proofs.QuietInvariant.{KeepsInvariant, Safe, safe_test, safe_then, safe_quiet, whole_quiet, open_rest}
use Rattle.fwd_theorem_delivery.proofs.FlushStart.{safe_walk}
use Rattle.fwd_theorem_delivery.proofs.LinkEvents.{safe_resumes}

module _ (s : AllSettings) where
  -- an acceptance returns the history so far
  abbrev Accepts : Now → Action Acceptance → Type 0
  Accepts n p = Ends (λ (a : Acceptance) (m : Now). (a.history ≡ m.history) × RunInvariant s m) n p

  safe_accepts : (b : Batch) (n : Now) → RunInvariant s n → Accepts n (accepts s b n.history)
  safe_accepts b n whole = whole_quiet s SameTaken n (accepts s b n.history) (quietly_accepts s b n.history (open_rest s n whole)) whole

  safe_takes : (b : Batch) (n : Now) → RunInvariant s n → Safe s n (ingests s b n.history)
  unfolding ingests
  safe_takes b n whole =
      ends_bind (λ (a : Acceptance) (m : Now). (a.history ≡ m.history) × RunInvariant s m) (KeepsInvariant s) n (accepts s b n.history) (λ (a : Acceptance). Return a.history) (safe_accepts b n whole) (λ a m stays. stays)

  -- ---- input

  abbrev Goes : (History → Action History) → Type 0
  Goes next = (m : Now) → RunInvariant s m → Safe s m (next m.history)

  safe_hangs_up : (conn : ℕ) (n : Now) → RunInvariant s n → Safe s n (hangs_up conn n.history)
  unfolding hangs_up
  safe_hangs_up conn n whole = safe_quiet s n (hangs_up conn n.history) (tt, λ _. (tt, λ _. refl)) whole

  safe_replied : (conn : ℕ) (next : History → Action History) (answer : Option (Unit {0})) (n : Now) → RunInvariant s n → Goes next → Safe s n (after_reply conn next n.history answer)
  safe_replied conn next (Some done) n whole more = more n whole
  safe_replied conn next None n whole more = safe_hangs_up conn n whole

  safe_replies : (conn : ℕ) (wanted : Option (List ℕ)) (next : History → Action History) (n : Now) → RunInvariant s n → Goes next → Safe s n (replies conn wanted next n.history)
  safe_replies conn None next n whole more = more n whole
  safe_replies conn (Some bytes) next n whole more = λ answer _.
      safe_replied conn next answer (asked (Reply conn bytes) answer n)
      (whole_aside s n (entry (Reply conn bytes) answer ∷ []) (λ to link given. neither given) (λ link. refl) (λ link. refl) whole) more
    where
      neither : ⊥ ⊎ ⊥ → ⊥
      neither (inl is) = is
      neither (inr is) = is

  safe_answers : (conn : ℕ) (wanted : Option (List ℕ)) (next : History → Action History) (was : Bool) (n : Now) → RunInvariant s n → Goes next → Safe s n (acknowledges conn wanted next (record { history = n.history; taken = was }))
  safe_answers conn wanted next true n whole more = safe_replies conn wanted next n whole more
  safe_answers conn wanted next false n whole more = safe_hangs_up conn n whole

  safe_reads : (input conn : ℕ) (breaks : Bool) (ms : List MessageContent) (n : Now) → RunInvariant s n → Safe s n (accepts_messages s input conn breaks ms n.history)
  safe_reads input conn false [] n whole = (refl, whole)
  safe_reads input conn true [] n whole = λ _ _. safe_hangs_up conn (noted (Malformed input) n) (whole_fact s (Malformed input) n tt whole)
  safe_reads input conn breaks (m ∷ ms) n whole =
      ends_bind (λ (a : Acceptance) (now : Now). (a.history ≡ now.history) × RunInvariant s now) (KeepsInvariant s) n (accepts s (message_batch s input m) n.history)
      (acknowledges conn (reply_of m) (accepts_messages s input conn breaks ms)) (safe_accepts (message_batch s input m) n whole)
      (λ a now stays.
      subst (λ (h : History). Safe s now (acknowledges conn (reply_of m) (accepts_messages s input conn breaks ms) (record { history = h; taken = a.taken }))) (sym stays.0)
      (safe_answers conn (reply_of m) (accepts_messages s input conn breaks ms) a.taken now stays.1 (λ later whole_later. safe_reads input conn breaks ms later whole_later)))

  safe_hears : (before : History) (input : ℕ) (bytes : List ℕ) (stream : Option Stream) (n : Now) → RunInvariant s n → Safe s n (accepts_stream s before input bytes stream n.history)
  safe_hears before input bytes None n whole = (refl, whole)
  safe_hears before input bytes (Some (LineStream conn)) n whole = safe_takes (piece_batch s before input (LineStream conn) bytes) n whole
  safe_hears before input bytes (Some (MessageStream conn)) n whole = safe_reads input conn (becomes_malformed (said s before (MessageStream conn)) bytes) (completed_messages (said s before (MessageStream conn)) bytes) n whole
  safe_hears before input bytes (Some (Standard reader)) n whole = safe_takes (piece_batch s before input (Standard reader) bytes) n whole

  safe_pieces : (before : History) (input conn : ℕ) (bytes : List ℕ) (n : Now) → RunInvariant s n → Safe s n (pieces s before input conn bytes n.history)
  unfolding pieces
  safe_pieces before input conn bytes n whole = safe_hears before input bytes (stream_of s before input conn) n whole

  -- ---- polls

  safe_polled : (input index : ℕ) (poll : Option Poll) (n : Now) → RunInvariant s n → Safe s n (polled s input index n.history poll)
  safe_polled input index None n whole = safe_quiet s n (polled s input index n.history None) (tt, λ _. refl) whole
  safe_polled input index (Some poll) n whole = λ _ _.
      safe_takes (poll_batch s n.history input index poll) (noted (Polled input index poll.long poll.bytes) n) (whole_fact s (Polled input index poll.long poll.bytes) n tt whole)

  safe_files : {R : Type 0} (p : FilesProgram R) (next : R → Action History) (n : Now) → ((x : R) → Safe s n (next x)) → Safe s n (bind (on_files p) next)
  safe_files (Return x) next n more = more x
  safe_files (Ask call go) next n more = λ answer _. safe_files (go answer) next n more

  safe_polls_file : (input index : ℕ) (path : List ℕ) (n : Now) → RunInvariant s n → Safe s n (polls_file s input index path n.history)
  unfolding polls_file
  safe_polls_file input index path n whole =
      safe_files (polls_of path (from_head_at s input) (file_at s n.history input index).place) (polled s input index n.history) n (λ poll. safe_polled input index poll n whole)

  safe_polls_files : (input index : ℕ) (paths : List (List ℕ)) (n : Now) → RunInvariant s n → Safe s n (polls_files s input index paths n.history)
  safe_polls_files input index [] n whole = (refl, whole)
  safe_polls_files input index (path ∷ paths) n whole =
      safe_then s n (polls_file s input index path n.history) (polls_files s input (index + 1) paths) (safe_polls_file input index path n whole) (λ m whole_m. safe_polls_files input (index + 1) paths m whole_m)

  safe_follows : (input : ℕ) (n : Now) → RunInvariant s n → Safe s n (polls_input s input n.history)
  unfolding polls_input
  safe_follows input n whole =
      safe_test s (is_paused s n.history input) n (Return n.history) (polls_files s input 0 (paths_at s input) n.history) (λ _. (refl, whole)) (λ _. safe_polls_files input 0 (paths_at s input) n whole)

  safe_follows_each : (inputs : List ℕ) (n : Now) → RunInvariant s n → Safe s n (polls_inputs s inputs n.history)
  safe_follows_each [] n whole = (refl, whole)
  safe_follows_each (input ∷ inputs) n whole = safe_then s n (polls_input s input n.history) (polls_inputs s inputs) (safe_follows input n whole) (λ m whole_m. safe_follows_each inputs m whole_m)

  safe_follows_all : (n : Now) → RunInvariant s n → Safe s n (polls_all s n.history)
  unfolding polls_all
  safe_follows_all n whole = safe_follows_each (range_with_len 0 (length s.inputs)) n whole

  -- ---- steps

  safe_closes_all : (n : Now) → RunInvariant s n → Safe s n (closes_all s n.history)
  safe_closes_all n whole = safe_quiet s n (closes_all s n.history) (quietly_closes_all s n.history (open_rest s n whole)) whole

  safe_walks : (closing : Bool) (n : Now) → RunInvariant s n → Safe s n (closes_and_dispatches s closing n.history)
  unfolding closes_and_dispatches
  safe_walks true n whole = safe_then s n (closes_all s n.history) (walk s) (safe_closes_all n whole) (λ m whole_m. safe_walk s m whole_m)
  safe_walks false n whole = safe_walk s n whole

  safe_ticks : (closing : Bool) (n : Now) → RunInvariant s n → Safe s n (ticks s closing n.history)
  unfolding ticks
  safe_ticks closing n whole = safe_then s n (polls_all s n.history) (closes_and_dispatches s closing) (safe_follows_all n whole) (λ m whole_m. safe_walks closing m whole_m)

  pub safe_stops : (before : Option ℕ) (n : Now) → RunInvariant s n → Safe s n (stops s before n.history)
  unfolding stops
  safe_stops (Some at) n whole = (refl, whole)
  safe_stops None n whole = safe_walks true n whole

  safe_finishes : (before : History) (input : ℕ) (n : Now) → RunInvariant s n → Safe s n (at_input_end s before input n.history)
  unfolding at_input_end
  safe_finishes before input n whole =
      safe_test s (reads_stdin_at s input) n (bind (ingests s (end_batch s before input (Standard input)) n.history) (stops s (stopped s before))) (Return n.history)
      (λ _. safe_then s n (ingests s (end_batch s before input (Standard input)) n.history) (stops s (stopped s before)) (safe_takes (end_batch s before input (Standard input)) n whole) (λ m whole_m. safe_stops (stopped s before) m whole_m))
      (λ _. (refl, whole))

-- a wait, and the event that it returned
module _ (s : AllSettings) (n : Now) (whole : RunInvariant s n) (until pauses : ℕ) where
  abbrev behind_wait : Happening → Now
  behind_wait brings = noted (Happened brings) (asked (Wait until pauses) brings n)

  pub waits : (brings : Happening) → ((link : ℕ) → event_on link brings ≡ []) → RunInvariant s (asked (Wait until pauses) brings n)
  waits brings nothing = whole_aside s n (entry (Wait until pauses) brings ∷ []) (λ to link given. none given) (λ link. rw (nothing link) refl) (λ link. refl) whole
    where
      none : ⊥ ⊎ ⊥ → ⊥
      none (inl is) = is
      none (inr is) = is

  brings_none : (brings : Happening) → ((link : ℕ) → event_on link brings ≡ []) → RunInvariant s (behind_wait brings)
  brings_none brings nothing = whole_fact s (Happened brings) (asked (Wait until pauses) brings n) tt (waits brings nothing)

  safe_room : (link : ℕ) (brings : Happening) → ((other : ℕ) → event_on other brings ≡ []) → Safe s (behind_wait brings) (at_room s link (Happened brings ∷ n.history))
  unfolding at_room
  safe_room link brings nothing = safe_resumes s (noted (Happened brings) n) (whole_fact s (Happened brings) n tt whole) until pauses brings link Room (nothing link) (λ other apart. nothing other)

  safe_back : (link : ℕ) (bytes : List ℕ) (brings : Happening) → ((other : ℕ) → event_on other brings ≡ cond (link == other) (Replied bytes ∷ []) []) → Safe s (behind_wait brings) (at_reply s link bytes (Happened brings ∷ n.history))
  unfolding at_reply
  safe_back link bytes brings comes =
      safe_resumes s (noted (Happened brings) n) (whole_fact s (Happened brings) n tt whole) until pauses brings link (Back bytes) (rw (comes link, eq-eqb link link refl) refl)
      (λ other apart. rw (comes other, ne_eqb link other apart) refl)

  safe_broken : (link : ℕ) (brings : Happening) → ((other : ℕ) → event_on other brings ≡ cond (link == other) (LinkBroke ∷ []) []) → Safe s (behind_wait brings) (at_break s link (Happened brings ∷ n.history))
  unfolding at_break
  safe_broken link brings comes =
      safe_resumes s (noted (Happened brings) n) (whole_fact s (Happened brings) n tt whole) until pauses brings link Broken (rw (comes link, eq-eqb link link refl) refl)
      (λ other apart. rw (comes other, ne_eqb link other apart) refl)

  safe_happens : (brings : Happening) → Safe s (behind_wait brings) (handles s n.history brings (Happened brings ∷ n.history))
  safe_happens (happening.Tick now) = safe_ticks s (is_close_due s n.history now) (behind_wait (happening.Tick now)) (brings_none (happening.Tick now) (λ link. refl))
  safe_happens (happening.Joined input conn) = (refl, brings_none (happening.Joined input conn) (λ link. refl))
  safe_happens (happening.Piece input conn bytes) = safe_pieces s n.history input.0 conn.0 bytes (behind_wait (happening.Piece input conn bytes)) (brings_none (happening.Piece input conn bytes) (λ link. refl))
  safe_happens (happening.Gone input conn) = (refl, brings_none (happening.Gone input conn) (λ link. refl))
  safe_happens (happening.Room link) = safe_room link.0 (happening.Room link) (λ other. refl)
  safe_happens (happening.Back link bytes) = safe_back link.0 bytes (happening.Back link bytes) (λ other. refl)
  safe_happens (happening.Broken link) = safe_broken link.0 (happening.Broken link) (λ other. refl)
  safe_happens (happening.InputEnd input) = safe_finishes s n.history input.0 (behind_wait (happening.InputEnd input)) (brings_none (happening.InputEnd input) (λ link. refl))
  safe_happens happening.Stop = safe_stops s (stopped s n.history) (behind_wait happening.Stop) (brings_none happening.Stop (λ link. refl))
  safe_happens happening.End = (refl, brings_none happening.End (λ link. refl))
  safe_happens happening.Failed = (refl, brings_none happening.Failed (λ link. refl))

  pub safe_step : (brings : Happening) → Safe s (asked (Wait until pauses) brings n) (step s brings n.history)
  unfolding step
  safe_step brings = λ _ _. safe_happens brings
