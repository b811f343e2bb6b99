-- Functions of a history are the same on renamed links, except for flights.
use Rattle.std.proofs.Common.{◌≡◌, ℕ, ◌==◌, ◌&&◌, not, Bool, true, false, if◌then◌else◌, List, [], ◌∷◌, ◌++◌, length, Option, Some, None, is_some, refl, ap, subst, ◌∙◌}
use Rattle.std.specs.Prelude.{filter}
use mathlib.Core.Path.{fun_ext}
use Rattle.fwd_event.specs.declared.event.Event.{Event}
use Rattle.fwd_chunk.specs.declared.kept.Kept.{Kept}
use Rattle.fwd_outside.specs.declared.happening.Happening.TheVariants as happening
use Rattle.fwd_flush.specs.declared.stage.Stage.{Stage}
use Rattle.fwd_flush.specs.declared.stage.Stage.TheVariants.{Opening, Writing, AwaitingAck, Ended}
use Rattle.fwd_flush.specs.FlushProgram.{Progress}
use Rattle.fwd_settings.specs.declared.settings_types.AllSettings.{AllSettings}
use Rattle.fwd_model.specs.Fact.{History, Stream, Route, Outcome, FlushStarted, InFlight, Retries, Delivered, Failed, Exhausted, Evicted, Happened, Resumed, Saved, Polled, Disconnected, Found, Offered, Accepted, ChunkClosed, OnRoute, Removed, FileLeft}
use Rattle.fwd_model.specs.Settings.{saturating_plus, reads_stdin_at, accepts_connections_at, input_at}
use Rattle.fwd_model.specs.Clock.{clock, tick_count, stopped, stopped_by, next_close, clock_after, is_close_due}
use Rattle.fwd_model.specs.Streams.{input_of, joined_by, left_by, is_joined, is_input, stream_of, stream_at, said}
use Rattle.fwd_model.specs.FollowedFiles.{file_at, settled}
use Rattle.fwd_model.specs.KeptOffsets.{kept_at}
use Rattle.fwd_model.specs.RecoveredFile.{recovered_chunk, recovered_events}
use Rattle.fwd_model.specs.Chunks.{ChunkInfo, chunks_of, created_info, recovered_info, next, is_closed, open_chunks, open_chunk, chunk_at, records, content, size, is_stored_in}
use Rattle.fwd_model.specs.ChunkStorage.{kept_of, stored_after}
use Rattle.fwd_model.specs.Routes.{same_route, is_retry, tries, due, due_after_outcome, progress_of, flight, events_begun, begun, resolves, is_resolved, uses_link, route_on_link}
use Rattle.fwd_theorem_links.specs.RenamedLinks.{renamed_history, renamed_outcome, renamed_progress}
use Rattle.fwd_theorem_links.specs.DialedLinks.{KeepsApart}
use Rattle.fwd_theorem_links.proofs.FlushPrograms.{IsOnDialed}

module _ (rename : ℕ → ℕ) where
  abbrev pub renamed : History → History
  renamed h = renamed_history rename h

  -- ---- times

  pub clock_same : (h : History) → clock (renamed h) ≡ clock h
  clock_same [] = refl
  clock_same (Happened (happening.Tick now) ∷ h) = ap (λ (n : ℕ). clock_after n now) (clock_same h)
  clock_same (_ ∷ h) = clock_same h

  pub tick_count_same : (h : History) → tick_count (renamed h) ≡ tick_count h
  tick_count_same [] = refl
  tick_count_same (Happened (happening.Tick now) ∷ h) = ap (λ (n : ℕ). saturating_plus n 1) (tick_count_same h)
  tick_count_same (_ ∷ h) = tick_count_same h

  -- ---- chunks

  pub chunks_same : (h : History) → chunks_of (renamed h) ≡ chunks_of h
  chunks_same [] = refl
  chunks_same (Found number stream name bytes ∷ h) = ap (λ (cs : List ChunkInfo). cs ++ recovered_info number (recovered_chunk bytes)) (chunks_same h)
  chunks_same (Accepted b place ∷ h) = ap (λ (cs : List ChunkInfo). cs ++ created_info b place) (chunks_same h)
  chunks_same (_ ∷ h) = chunks_same h

  pub next_same : (h : History) → next (renamed h) ≡ next h
  next_same [] = refl
  next_same (Found number stream name bytes ∷ h) = rw (next_same h) refl
  next_same (Offered chunk b ∷ h) = rw (next_same h) refl
  next_same (_ ∷ h) = next_same h

  pub closed_same : (h : History) (chunk : ℕ) → is_closed (renamed h) chunk ≡ is_closed h chunk
  closed_same [] chunk = refl
  closed_same (Found other stream name bytes ∷ h) chunk = ap (λ (b : Bool). if other == chunk then true else b) (closed_same h chunk)
  closed_same (ChunkClosed other ∷ h) chunk = ap (λ (b : Bool). if other == chunk then true else b) (closed_same h chunk)
  closed_same (_ ∷ h) chunk = closed_same h chunk

  pub records_same : (h : History) (chunk : ℕ) → records (renamed h) chunk ≡ records h chunk
  records_same [] chunk = refl
  records_same (Found other stream name bytes ∷ h) chunk = ap (λ (l : List Event). if other == chunk then recovered_events bytes else l) (records_same h chunk)
  records_same (Accepted b place ∷ h) chunk = ap (λ (l : List Event). if is_stored_in place chunk then l ++ b.events else l) (records_same h chunk)
  records_same (_ ∷ h) chunk = records_same h chunk

  pub content_same : (h : History) (chunk : ℕ) → content (renamed h) chunk ≡ content h chunk
  content_same [] chunk = refl
  content_same (Found other stream name bytes ∷ h) chunk = rw (content_same h chunk) refl
  content_same (Accepted b place ∷ h) chunk = rw (content_same h chunk) refl
  content_same (_ ∷ h) chunk = content_same h chunk

  pub size_same : (h : History) (chunk : ℕ) → size (renamed h) chunk ≡ size h chunk
  size_same h chunk = ap (λ (l : List ℕ). length l) (content_same h chunk)

  pub open_same : (h : History) → open_chunks (renamed h) ≡ open_chunks h
  open_same h =
      ap (λ (cs : List ChunkInfo). filter (λ (c : ChunkInfo). not (is_closed (renamed h) c.number)) cs) (chunks_same h)
      ∙ ap (λ (f : ChunkInfo → Bool). filter f (chunks_of h)) (fun_ext (λ (c : ChunkInfo). ap not (closed_same h c.number)))

  pub open_chunk_same : (h : History) (input : ℕ) (tag : List ℕ) → open_chunk (renamed h) input tag ≡ open_chunk h input tag
  open_chunk_same h input tag = rw (open_same h) refl

  pub chunk_same : (h : History) (chunk : ℕ) → chunk_at (renamed h) chunk ≡ chunk_at h chunk
  chunk_same h chunk = rw (chunks_same h) refl

  -- ---- kept offsets

  pub kept_at_same : (h : History) (input index : ℕ) → kept_at (renamed h) input index ≡ kept_at h input index
  kept_at_same [] input index = refl
  kept_at_same (Resumed i k place ∷ h) input index = rw (kept_at_same h input index) refl
  kept_at_same (Saved i k place ∷ h) input index = rw (kept_at_same h input index) refl
  kept_at_same (_ ∷ h) input index = kept_at_same h input index

  -- ---- routes

  retry_same : (outcome : Outcome) → is_retry (renamed_outcome rename outcome) ≡ is_retry outcome
  retry_same (InFlight progress) = refl
  retry_same outcome = refl

  pub tries_same : (h : History) (r : Route) → tries (renamed h) r ≡ tries h r
  tries_same [] r = refl
  tries_same (OnRoute other outcome ∷ h) r = rw (retry_same outcome) (rw (tries_same h r) refl)
  tries_same (_ ∷ h) r = tries_same h r

  begun_outcome_same : (outcome : Outcome) (events : List Event) → events_begun (renamed_outcome rename outcome) events ≡ events_begun outcome events
  begun_outcome_same (InFlight progress) events = refl
  begun_outcome_same outcome events = refl

  pub begun_same : (h : History) (r : Route) → begun (renamed h) r ≡ begun h r
  begun_same [] r = refl
  begun_same (OnRoute other outcome ∷ h) r = rw (begun_same h r) (rw (begun_outcome_same outcome (begun h r)) refl)
  begun_same (_ ∷ h) r = begun_same h r

  -- flights have renamed links
  abbrev pub renamed_flight : Option Progress → Option Progress
  renamed_flight None = None
  renamed_flight (Some p) = Some (renamed_progress rename p)

  progress_same : (outcome : Outcome) → progress_of (renamed_outcome rename outcome) ≡ renamed_flight (progress_of outcome)
  progress_same (InFlight progress) = refl
  progress_same (FlushStarted events) = refl
  progress_same (Retries word) = refl
  progress_same Delivered = refl
  progress_same Failed = refl
  progress_same Exhausted = refl
  progress_same Evicted = refl

  if_named : (b : Bool) (p q : Option Progress) → (if b then renamed_flight p else renamed_flight q) ≡ renamed_flight (if b then p else q)
  if_named true p q = refl
  if_named false p q = refl

  pub flight_same : (h : History) (r : Route) → flight (renamed h) r ≡ renamed_flight (flight h r)
  flight_same [] r = refl
  flight_same (OnRoute other outcome ∷ h) r = rw (progress_same outcome) (rw (flight_same h r) (if_named (same_route other r) (progress_of outcome) (flight h r)))
  flight_same (_ ∷ h) r = flight_same h r

  some_same : (p : Option Progress) → is_some (renamed_flight p) ≡ is_some p
  some_same None = refl
  some_same (Some p) = refl

  pub in_flight_same : (h : History) (r : Route) → is_some (flight (renamed h) r) ≡ is_some (flight h r)
  in_flight_same h r = ap (λ (p : Option Progress). is_some p) (flight_same h r) ∙ some_same (flight h r)

  module _ (s : AllSettings) where
    pub stopped_same : (h : History) → stopped s (renamed h) ≡ stopped s h
    stopped_same [] = refl
    stopped_same (Happened happening.Stop ∷ h) = rw (clock_same h) (ap (λ (at : Option ℕ). stopped_by true (clock h) at) (stopped_same h))
    stopped_same (Happened (happening.InputEnd input) ∷ h) = rw (clock_same h) (ap (λ (at : Option ℕ). stopped_by (reads_stdin_at s input.0) (clock h) at) (stopped_same h))
    stopped_same (_ ∷ h) = stopped_same h

    pub next_close_same : (h : History) → next_close s (renamed h) ≡ next_close s h
    next_close_same [] = refl
    next_close_same (Happened (happening.Tick now) ∷ h) = rw (clock_same h) (rw (next_close_same h) refl)
    next_close_same (_ ∷ h) = next_close_same h

    pub close_due_same : (h : History) (now : ℕ) → is_close_due s (renamed h) now ≡ is_close_due s h now
    close_due_same h now = rw (clock_same h) (rw (next_close_same h) refl)

    pub input_same : (h : History) (conn : ℕ) → input_of s (renamed h) conn ≡ input_of s h conn
    input_same [] conn = refl
    input_same (Happened (happening.Joined input other) ∷ h) conn = ap (λ (o : Option ℕ). joined_by (other.0 == conn && accepts_connections_at s input.0) input.0 o) (input_same h conn)
    input_same (Happened (happening.Gone input other) ∷ h) conn = ap (λ (o : Option ℕ). left_by (other.0 == conn) input.0 o) (input_same h conn)
    input_same (Disconnected other ∷ h) conn = ap (λ (o : Option ℕ). if other == conn then None else o) (input_same h conn)
    input_same (_ ∷ h) conn = input_same h conn

    pub joined_same : (h : History) (input conn : ℕ) → is_joined s (renamed h) input conn ≡ is_joined s h input conn
    joined_same h input conn = ap (λ (o : Option ℕ). is_input input o) (input_same h conn)

    pub stream_same : (h : History) (input conn : ℕ) → stream_of s (renamed h) input conn ≡ stream_of s h input conn
    stream_same h input conn = ap (λ (b : Bool). stream_at input conn b (input_at s input)) (joined_same h input conn)

    pub said_same : (h : History) (stream : Stream) → said s (renamed h) stream ≡ said s h stream
    said_same [] stream = refl
    said_same (Happened (happening.Piece input conn bytes) ∷ h) stream = rw (stream_same h input.0 conn.0) (rw (said_same h stream) refl)
    said_same (Happened (happening.Gone input conn) ∷ h) stream = rw (joined_same h input.0 conn.0) (rw (said_same h stream) refl)
    said_same (Happened (happening.InputEnd input) ∷ h) stream = rw (said_same h stream) refl
    said_same (Disconnected conn ∷ h) stream = rw (said_same h stream) refl
    said_same (_ ∷ h) stream = said_same h stream

    pub file_same : (h : History) (input index : ℕ) → file_at s (renamed h) input index ≡ file_at s h input index
    file_same [] input index = refl
    file_same (Resumed i k place ∷ h) input index = rw (file_same h input index) refl
    file_same (Polled i k long bytes ∷ h) input index = rw (file_same h input index) refl
    file_same (_ ∷ h) input index = file_same h input index

    pub settled_same : (h : History) (input index : ℕ) → settled s (renamed h) input index ≡ settled s h input index
    settled_same h input index = rw (file_same h input index) refl

    pub kept_same : (h : History) (chunk : ℕ) → kept_of s (renamed h) chunk ≡ kept_of s h chunk
    kept_same [] chunk = refl
    kept_same (Found other stream name bytes ∷ h) chunk = rw (kept_same h chunk) refl
    kept_same (Accepted b place ∷ h) chunk = ap (λ (k : Option Kept). stored_after s b place chunk k) (kept_same h chunk)
    kept_same (Removed other ∷ h) chunk = ap (λ (k : Option Kept). if other == chunk then None else k) (kept_same h chunk)
    kept_same (FileLeft other ∷ h) chunk = ap (λ (k : Option Kept). if other == chunk then None else k) (kept_same h chunk)
    kept_same (_ ∷ h) chunk = kept_same h chunk

    due_outcome_same : (outcome : Outcome) (now tried before : ℕ) → due_after_outcome s now tried (renamed_outcome rename outcome) before ≡ due_after_outcome s now tried outcome before
    due_outcome_same (InFlight progress) now tried before = refl
    due_outcome_same outcome now tried before = refl

    pub due_same : (h : History) (r : Route) → due s (renamed h) r ≡ due s h r
    due_same [] r = refl
    due_same (ChunkClosed chunk ∷ h) r = rw (clock_same h) (rw (due_same h r) refl)
    due_same (OnRoute other outcome ∷ h) r = rw (clock_same h) (rw (tries_same h r) (rw (due_same h r) (rw (due_outcome_same outcome (clock h) (tries h r) (due s h r)) refl)))
    due_same (_ ∷ h) r = due_same h r

    resolves_same : (outcome : Outcome) → resolves (renamed_outcome rename outcome) ≡ resolves outcome
    resolves_same (InFlight progress) = refl
    resolves_same outcome = refl

    pub resolved_same : (h : History) (r : Route) → is_resolved s (renamed h) r ≡ is_resolved s h r
    resolved_same [] r = refl
    resolved_same (Found number stream name bytes ∷ h) r = rw (resolved_same h r) refl
    resolved_same (OnRoute other outcome ∷ h) r = rw (resolves_same outcome) (rw (resolved_same h r) refl)
    resolved_same (_ ∷ h) r = resolved_same h r

  -- ---- links

  module _ (IsDialed : ℕ → Type 0) (apart : KeepsApart rename IsDialed) where
    abbrev pub IsDialedIn : Outcome → Type 0
    IsDialedIn (InFlight progress) = IsOnDialed rename IsDialed progress.stage
    IsDialedIn outcome = Unit {0}

    -- each flush of a history is on a link that a dial returned
    abbrev pub AreDialed : History → Type 0
    AreDialed [] = Unit {0}
    AreDialed (OnRoute r outcome ∷ h) = IsDialedIn outcome × AreDialed h
    AreDialed (_ ∷ h) = AreDialed h

    uses_link_same : (outcome : Outcome) (link : ℕ) → IsDialedIn outcome → uses_link (rename link) (progress_of (renamed_outcome rename outcome)) ≡ uses_link link (progress_of outcome)
    uses_link_same (InFlight progress) link known = by progress.stage known
      where
        by : (stage : Stage) → IsOnDialed rename IsDialed stage → uses_link (rename link) (Some (renamed_progress rename (record progress { stage = stage }))) ≡ uses_link link (Some (record progress { stage = stage }))
        by Opening known = refl
        by (Writing other) known = apart other.0 link known
        by (AwaitingAck other) known = apart other.0 link known
        by (Ended answer) known = refl
    uses_link_same (FlushStarted events) link known = refl
    uses_link_same (Retries word) link known = refl
    uses_link_same Delivered link known = refl
    uses_link_same Failed link known = refl
    uses_link_same Exhausted link known = refl
    uses_link_same Evicted link known = refl

    -- an event of a link finds the same route
    pub route_on_link_same : (h : History) (link : ℕ) → AreDialed h → route_on_link (renamed h) (rename link) ≡ route_on_link h link
    route_on_link_same [] link dialed = refl
    route_on_link_same (OnRoute r outcome ∷ h) link dialed = rw (uses_link_same outcome link dialed.0) (rw (route_on_link_same h link dialed.1) refl)
    route_on_link_same (_ ∷ h) link dialed = route_on_link_same h link dialed

    dialed_if : (b : Bool) (p q : Option Progress) → ((x : Progress) → p ≡ Some x → IsOnDialed rename IsDialed x.stage) → ((x : Progress) → q ≡ Some x → IsOnDialed rename IsDialed x.stage)
        → (x : Progress) → (if b then p else q) ≡ Some x → IsOnDialed rename IsDialed x.stage
    dialed_if true p q first second = first
    dialed_if false p q first second = second

    dialed_outcome : (outcome : Outcome) → IsDialedIn outcome → (x : Progress) → progress_of outcome ≡ Some x → IsOnDialed rename IsDialed x.stage
    dialed_outcome (InFlight progress) known x is = let same : progress ≡ x = cc is in subst (λ (p : Progress). IsOnDialed rename IsDialed p.stage) same known
    dialed_outcome (FlushStarted events) known x is = absurd (cc is)
    dialed_outcome (Retries word) known x is = absurd (cc is)
    dialed_outcome Delivered known x is = absurd (cc is)
    dialed_outcome Failed known x is = absurd (cc is)
    dialed_outcome Exhausted known x is = absurd (cc is)
    dialed_outcome Evicted known x is = absurd (cc is)

    pub dialed_flight : (h : History) (r : Route) → AreDialed h → (x : Progress) → flight h r ≡ Some x → IsOnDialed rename IsDialed x.stage
    dialed_flight [] r dialed x is = absurd (cc is)
    dialed_flight (OnRoute other outcome ∷ h) r dialed x is =
        dialed_if (same_route other r) (progress_of outcome) (flight h r) (dialed_outcome outcome dialed.0) (λ y so. dialed_flight h r dialed.1 y so) x is
    dialed_flight (_ ∷ h) r dialed x is = dialed_flight h r dialed x is
