-- The abstraction relation between a state and a history.
use Rattle.std.specs.Prelude.{◌≡◌, ◌≢◌, ℕ, ◌+◌, ◌<◌, ◌≤◌, ◌==◌, not, Bool, true, false, List, [], ◌∷◌, length, map, filter, Option, Some, None}
use Rattle.std.specs.List.{list_any}
use Rattle.std.specs.Option.{option_map_or}
use Rattle.fwd_outside.specs.declared.happening.Happening.{Happening}
use Rattle.fwd_outside.specs.declared.happening.Happening.TheVariants as happening
use Rattle.fwd_chunk.specs.declared.chunk.Chunk.{Chunk}
use Rattle.fwd_flush.specs.FlushProgram.{link_in, delivery as delivery_of}
use Rattle.fwd_settings.specs.declared.settings_types.AllSettings.{AllSettings}
use Rattle.fwd_table.specs.Routes.{idle_at, routes_to}
use Rattle.fwd_table.specs.Rows.{has_row}
use Rattle.fwd_model.specs.Fact.{Fact, History, Route, Happened, Resumed, Saved, Polled, Disconnected, Malformed, Found, Offered, Accepted, Refused, ChunkClosed, Sent, OnRoute, MarkStarted, Marked, Removed, FileLeft, IoFailed}
use Rattle.fwd_model.specs.Settings.{outputs_for, output_name, reads_stdin_at}
use Rattle.fwd_model.specs.Clock.{clock, tick_count, stopped, next_close}
use Rattle.fwd_model.specs.RecoveredFile.{recovered_chunk, is_marked_done}
use Rattle.fwd_model.specs.Chunks.{ChunkInfo, chunks_of, chunk_at, next, is_closed, open_chunks, content}
use Rattle.fwd_model.specs.Routes.{route, tries, due, flight, is_resolved, rows_of, route_on_link}
use Rattle.fwd_model.specs.Payloads.{delivery}
use Rattle.fwd_model.specs.Counters.{tally_of}
use Rattle.fwd_payload.specs.Reader.{wants, judges}
use Rattle.fwd_engine_state.specs.Views.{chunk_id, output_id, attempt_over, route_of}
use Rattle.fwd_engine_state.specs.declared.state.State.{State}
use Rattle.fwd_engine_state.specs.declared.flush_attempts.FlushAttempt.{FlushAttempt}

-- ---- chunks

-- the numbers of chunks rise, are at least one number, and are below another
abbrev pub NumbersRise : ℕ → ℕ → List ChunkInfo → Type 0
NumbersRise least past [] = Unit {0}
NumbersRise least past (c ∷ cs) = (least ≤ c.number) × (c.number < past) × NumbersRise (c.number + 1) past cs

-- whether a chunk is among the open ones
abbrev pub is_open : History → ℕ → Bool
is_open h chunk = list_any (λ (c : ChunkInfo). c.number == chunk) (open_chunks h)

-- the history has no fact about a route yet, or about a chunk
abbrev pub RouteIsUntouched : AllSettings → History → Route → Type 0
RouteIsUntouched s h r = (tries h r ≡ 0) × (due s h r ≡ 0) × (flight h r ≡ None) × (is_resolved s h r ≡ false)

abbrev pub IsUntouched : AllSettings → History → ℕ → Type 0
IsUntouched s h chunk =
    (is_closed h chunk ≡ false) × (content h chunk ≡ [])
    × ((output : ℕ) → RouteIsUntouched s h (route chunk output))

-- A chunk of this number may begin: the number was given out, it is above those of all chunks, and the
-- history has no other fact about it.
pub record IsNew (s : AllSettings) (h : History) (chunk : ℕ) : Type 0 where
  pub first : 1 ≤ chunk
  pub behind : NumbersRise 0 chunk (chunks_of h)
  pub given : chunk < next h
  pub fresh : IsUntouched s h chunk

-- the mask is that of these outputs, and there is one
pub record IsMaskOf (outputs : List ℕ) (owed : ℕ) : Type 0 where
  pub routes : routes_to owed ≡ map (λ output. idle_at 0 (output_id output)) outputs
  pub some : outputs ≢ []

-- the outputs that a recovered chunk is pending for: those that match its tag and have no recorded outcome
abbrev pub remaining_for : AllSettings → Chunk → List ℕ
remaining_for s chunk =
    filter (λ output. not (is_marked_done (output_name s output) (Some chunk))) (outputs_for s chunk.tag)

-- the bytes of a file represent a chunk of this tag and size, which is pending for the outputs of a mask
pub record IsLoaded (s : AllSettings) (tag : List ℕ) (size owed : ℕ) (bytes : List ℕ) : Type 0 where
  pub chunk : Chunk
  pub found : recovered_chunk bytes ≡ Some chunk
  pub of_tag : chunk.tag ≡ tag
  pub of_size : length chunk.content ≡ size
  pub mask : IsMaskOf (remaining_for s chunk) owed

-- ---- flush attempts

-- the chunk of a route exists and is closed
abbrev pub IsClosedRoute : History → Route → Type 0
IsClosedRoute h r = (is_closed h r.chunk ≡ true) × (r.chunk < next h)

-- whether an output is among those that match the tag of a chunk
abbrev pub is_for : AllSettings → ℕ → ChunkInfo → Bool
is_for s output c = list_any (λ o. o == output) (outputs_for s c.tag)

-- a route is pending: its chunk exists and matches its output, and the route isn't resolved
abbrev pub IsPending : AllSettings → History → Route → Type 0
IsPending s h r =
    (option_map_or (is_for s r.output) (chunk_at h r.chunk) false ≡ true) × (is_resolved s h r ≡ false)

-- a flush attempt of a pending route, at any progress, and what it delivers
abbrev pub IsFlightOf : AllSettings → History → FlushAttempt → Route → Type 0
IsFlightOf s h f r =
    (route_of f.route ≡ r) × (f.flush.output ≡ f.route.output)
    × (delivery_of wants judges f.flush ≡ delivery s h r) × IsPending s h r × IsClosedRoute h r

-- the attempt over a connection is that of the route, has this progress, and isn't the one that is out
abbrev pub AttemptIsKept : AllSettings → History → Option Route → ℕ → FlushAttempt → Route → Type 0
AttemptIsKept s h out link f r =
    IsFlightOf s h f r × (flight h r ≡ Some f.flush.progress)
    × (link_in f.flush.progress.stage ≡ Some (record { 0 = link })) × (out ≢ Some r)

-- The attempt over a connection, and the route on it. The attempt of the route that is out isn't kept.
abbrev pub LinkHolds : AllSettings → History → Option Route → ℕ → Option FlushAttempt → Option Route → Type 0
LinkHolds s h out link None None = Unit {0}
LinkHolds s h out link None (Some r) = out ≡ Some r
LinkHolds s h out link (Some f) None = ⊥
LinkHolds s h out link (Some f) (Some r) = AttemptIsKept s h out link f r

-- ---- the state

-- The state represents the history. The attempt of one route may be out: its calls are being made.
pub record StateRepresents (s : AllSettings) (state : State) (h : History) (out : Option Route) : Type 0 where
  pub rows : state.chunks.rows ≡ rows_of s h
  pub top : (n : ℕ) → 1 ≤ n → NumbersRise 0 n (chunks_of h) → state.chunks.top < n
  pub flights : (link : ℕ) → LinkHolds s h out link (attempt_over link state.flights) (route_on_link h link)
  pub time : state.clock ≡ clock h
  pub ticks : state.ticks ≡ tick_count h
  pub closing : state.closing ≡ next_close s h
  pub stopped : state.stopped ≡ stopped s h
  pub tally : state.counts ≡ tally_of s h
  -- The numbers of chunks rise and were given out, there are no facts about numbers that weren't, and each
  -- open chunk is pending.
  pub numbers : NumbersRise 0 (next h) (chunks_of h)
  pub fresh : (chunk : ℕ) → next h ≤ chunk → IsUntouched s h chunk
  pub open_owed : (chunk : ℕ) → is_open h chunk ≡ true → has_row (chunk_id chunk) (rows_of s h) ≡ true

-- the state represents the history, and no attempt is out
abbrev pub StateRepresentsIdle : AllSettings → State → History → Type 0
StateRepresentsIdle s state h = StateRepresents s state h None

-- a statement about each history that the state represents
abbrev pub StateAnswers : State → (AllSettings → History → Type 0) → Type 0
StateAnswers state P =
    (s : AllSettings) (h : History) (out : Option Route) → StateRepresents s state h out → P s h

-- the new state represents what the old one did
abbrev pub StateUnchanged : State → State → Type 0
StateUnchanged old new =
    (s : AllSettings) (h : History) (out : Option Route) → StateRepresents s old h out
    → StateRepresents s new h out

-- the new state represents one fact more
abbrev pub StateNotes : State → State → Fact → Type 0
StateNotes old new fact =
    (s : AllSettings) (h : History) (out : Option Route) → StateRepresents s old h out
    → StateRepresents s new (fact ∷ h) out

-- the same, if a condition holds for the history before it
abbrev pub StateNotesWhere : State → State → (AllSettings → History → Type 0) → Fact → Type 0
StateNotesWhere old new P fact =
    (s : AllSettings) (h : History) (out : Option Route) → StateRepresents s old h out → P s h
    → StateRepresents s new (fact ∷ h) out

-- The attempt of the route that is out has an outcome, which is the next fact. No attempt is out then.
abbrev pub StateNotesOutcome : State → State → Route → (AllSettings → History → Type 0) → Fact → Type 0
StateNotesOutcome old new r P fact =
    (s : AllSettings) (h : History) → StateRepresents s old h (Some r) → P s h
    → StateRepresents s new (fact ∷ h) None

-- The attempt over a connection was taken out. There was none if no route is on the connection.
abbrev pub IsTakenOut : AllSettings → History → State → ℕ → Option FlushAttempt → Type 0
IsTakenOut s h state link None = StateRepresents s state h None × (route_on_link h link ≡ None)
IsTakenOut s h state link (Some f) =
    StateRepresents s state h (Some (route_of f.route)) × (route_on_link h link ≡ Some (route_of f.route))
    × (flight h (route_of f.route) ≡ Some f.flush.progress) × IsFlightOf s h f (route_of f.route)

-- ---- facts that leave a state as it is

-- whether an event is neither a tick nor `Stop` nor the end of standard input
abbrev pub is_not_state_event : AllSettings → Happening → Bool
is_not_state_event s (happening.Tick now) = false
is_not_state_event s (happening.Joined input conn) = true
is_not_state_event s (happening.Piece input conn bytes) = true
is_not_state_event s (happening.Gone input conn) = true
is_not_state_event s (happening.Room link) = true
is_not_state_event s (happening.Back link bytes) = true
is_not_state_event s (happening.Broken link) = true
is_not_state_event s (happening.InputEnd input) = not (reads_stdin_at s input.0)
is_not_state_event s happening.Stop = false
is_not_state_event s happening.End = true
is_not_state_event s happening.Failed = true

-- whether a fact is about other parts alone
abbrev pub is_not_state_fact : AllSettings → Fact → Bool
is_not_state_fact s (Happened happens) = is_not_state_event s happens
is_not_state_fact s (Resumed input index place) = true
is_not_state_fact s (Saved input index place) = true
is_not_state_fact s (Polled input index long bytes) = true
is_not_state_fact s (Disconnected conn) = true
is_not_state_fact s (Malformed input) = false
is_not_state_fact s (Found number stream name bytes) = false
is_not_state_fact s (Offered chunk b) = true
is_not_state_fact s (Accepted b place) = false
is_not_state_fact s (Refused b why) = false
is_not_state_fact s (ChunkClosed chunk) = false
is_not_state_fact s (Sent output bytes) = false
is_not_state_fact s (OnRoute r outcome) = false
is_not_state_fact s (MarkStarted r) = true
is_not_state_fact s (Marked r) = true
is_not_state_fact s (Removed chunk) = true
is_not_state_fact s (FileLeft chunk) = true
is_not_state_fact s IoFailed = false
