-- Routes: which outputs each chunk is pending for, and the state of each such delivery.
use Rattle.std.specs.Prelude.{ℕ, ◌==◌, ◌&&◌, ◌||◌, not, Bool, true, false, if◌then◌else◌, List, [], ◌∷◌, length, filter, map, Option, Some, None, option_map, is_some}
use Rattle.std.specs.Option.{option_map_or}
use Rattle.fwd_base.specs.declared.ids.InputId.{InputId}
use Rattle.fwd_base.specs.declared.ids.LinkId.{LinkId}
use Rattle.fwd_outside.specs.declared.home.Home.{Home}
use Rattle.fwd_outside.specs.declared.home.Home.TheVariants.{Disk}
use Rattle.fwd_event.specs.declared.event.Event.{Event}
use Rattle.fwd_retry.specs.Wait.{wait}
use Rattle.fwd_table.specs.Outcomes.{due_after}
use Rattle.fwd_table.specs.Rows.{is_route_idle, flights_to as flights_in}
use Rattle.fwd_table.specs.Row.{Row}
use Rattle.fwd_table.specs.Route.{Route as Owed}
use Rattle.fwd_flush.specs.FlushProgram.{Progress, link_in}
use Rattle.fwd_settings.specs.declared.settings_types.AllSettings.{AllSettings}
use Rattle.fwd_model.specs.Fact.{History, Route, Found, ChunkClosed, OnRoute, Outcome, FlushStarted, InFlight, Retries, Delivered, Failed, Exhausted, Evicted}
use Rattle.fwd_model.specs.Settings.{saturating_plus, outputs_for, output_name, home_at}
use Rattle.fwd_model.specs.Clock.{clock}
use Rattle.fwd_model.specs.RecoveredFile.{recovered_chunk, is_marked_done}
use Rattle.fwd_model.specs.Chunks.{ChunkInfo, chunks_of, chunk_at, is_closed, size}

abbrev pub same_route : Route → Route → Bool
same_route a b = a.chunk == b.chunk && a.output == b.output

abbrev pub route : ℕ → ℕ → Route
route chunk output = record { chunk = chunk; output = output }

-- whether an outcome is a flush that ended with RETRY
abbrev pub is_retry : Outcome → Bool
is_retry (FlushStarted events) = false
is_retry (InFlight progress) = false
is_retry (Retries word) = true
is_retry Delivered = false
is_retry Failed = false
is_retry Exhausted = true
is_retry Evicted = false

-- how often flushes of a route ended with RETRY
abbrev pub tries : History → Route → ℕ
tries [] r = 0
tries (OnRoute other outcome ∷ h) r =
    if same_route other r && is_retry outcome then saturating_plus (tries h r) 1 else tries h r
tries (_ ∷ h) r = tries h r

-- the wait in seconds before the n-th retry, from its random word
abbrev pub wait_for : AllSettings → ℕ → ℕ → ℕ
wait_for s n word = wait n s.service.base s.service.cap word

-- the due time after an outcome: the clock and a wait, or as before
abbrev pub due_after_outcome : AllSettings → ℕ → ℕ → Outcome → ℕ → ℕ
due_after_outcome s now tried (FlushStarted events) before = before
due_after_outcome s now tried (InFlight progress) before = before
due_after_outcome s now tried (Retries word) before =
    due_after now (wait_for s (saturating_plus tried 1) word)
due_after_outcome s now tried Delivered before = before
due_after_outcome s now tried Failed before = before
due_after_outcome s now tried Exhausted before = before
due_after_outcome s now tried Evicted before = before

-- The time from which a route is due: the clock when its chunk closed, or at its last retry plus the wait.
-- A recovered chunk is due at 0.
abbrev pub due : AllSettings → History → Route → ℕ
due s [] r = 0
due s (ChunkClosed chunk ∷ h) r = if chunk == r.chunk then clock h else due s h r
due s (OnRoute other outcome ∷ h) r =
    if same_route other r then due_after_outcome s (clock h) (tries h r) outcome (due s h r) else due s h r
due s (_ ∷ h) r = due s h r

-- the progress that an outcome leaves
abbrev pub progress_of : Outcome → Option Progress
progress_of (FlushStarted events) = None
progress_of (InFlight progress) = Some progress
progress_of (Retries word) = None
progress_of Delivered = None
progress_of Failed = None
progress_of Exhausted = None
progress_of Evicted = None

-- the progress of a route's flush; none if no flush is in flight
abbrev pub flight : History → Route → Option Progress
flight [] r = None
flight (OnRoute other outcome ∷ h) r = if same_route other r then progress_of outcome else flight h r
flight (_ ∷ h) r = flight h r

-- the events that the route's last flush sends
abbrev pub events_begun : Outcome → List Event → List Event
events_begun (FlushStarted events) before = events
events_begun (InFlight progress) before = before
events_begun (Retries word) before = before
events_begun Delivered before = before
events_begun Failed before = before
events_begun Exhausted before = before
events_begun Evicted before = before

abbrev pub begun : History → Route → List Event
begun [] r = []
begun (OnRoute other outcome ∷ h) r =
    if same_route other r then events_begun outcome (begun h r) else begun h r
begun (_ ∷ h) r = begun h r

abbrev pub resolves : Outcome → Bool
resolves (FlushStarted events) = false
resolves (InFlight progress) = false
resolves (Retries word) = false
resolves Delivered = true
resolves Failed = true
resolves Exhausted = true
resolves Evicted = true

-- Whether a route is resolved: its output acknowledged or rejected it, its retries are exhausted or a limit
-- evicted it; or the chunk's file marks it as done in an earlier run.
abbrev pub is_resolved : AllSettings → History → Route → Bool
is_resolved s [] r = false
is_resolved s (Found number stream name bytes ∷ h) r =
    (number == r.chunk && is_marked_done (output_name s r.output) (recovered_chunk bytes))
    || is_resolved s h r
is_resolved s (OnRoute other outcome ∷ h) r = (same_route other r && resolves outcome) || is_resolved s h r
is_resolved s (_ ∷ h) r = is_resolved s h r

-- the outputs that a chunk is pending for: those that match its tag and aren't resolved
abbrev pub owed : AllSettings → History → ChunkInfo → List ℕ
owed s h c = filter (λ output. not (is_resolved s h (route c.number output))) (outputs_for s c.tag)

abbrev pub is_owed : AllSettings → History → ChunkInfo → Bool
is_owed s h c = not (length (owed s h c) == 0)

-- whether the chunk of this number is pending for any output
abbrev pub owes : AllSettings → History → ℕ → Bool
owes s h chunk = option_map_or (is_owed s h) (chunk_at h chunk) false

-- ---- the rows of the table

-- the state of a route, as the table's entry
abbrev pub table_route : AllSettings → History → ℕ → ℕ → Owed
table_route s h chunk output =
    let r = route chunk output in record
    { output = record { 0 = output }; due = due s h r; tries = tries h r; flying = is_some (flight h r) }

-- a recovered chunk is in a file; any other is where its input keeps chunks
abbrev pub home_of : AllSettings → Option ℕ → Home
home_of s None = Disk
home_of s (Some input) = home_at s input

abbrev pub input_id : ℕ → InputId
input_id input = record { 0 = input }

abbrev pub row_of : AllSettings → History → ChunkInfo → Row
row_of s h c = record {
  chunk = record { 0 = c.number };
  input = option_map input_id c.input;
  home = home_of s c.input;
  tag = c.tag;
  size = size h c.number;
  shut = is_closed h c.number;
  routes = map (table_route s h c.number) (owed s h c);
}

-- the rows of the table: one for each chunk that is pending for an output, by rising number
abbrev pub rows_of : AllSettings → History → List Row
rows_of s h = map (row_of s h) (filter (is_owed s h) (chunks_of h))

-- how many chunks are in flight to an output
abbrev pub flights_to : AllSettings → History → ℕ → ℕ
flights_to s h output = flights_in (record { 0 = output }) (rows_of s h)

-- whether a route is idle: it is pending, its chunk is closed, and no flush of it is in flight
abbrev pub is_idle : AllSettings → History → Route → Bool
is_idle s h r = is_route_idle (record { 0 = r.chunk }) (record { 0 = r.output }) (rows_of s h)

-- ---- links

abbrev pub is_link : ℕ → Option LinkId → Bool
is_link link None = false
is_link link (Some other) = other.0 == link

-- whether a flush has this link
abbrev pub uses_link : ℕ → Option Progress → Bool
uses_link link None = false
uses_link link (Some progress) = is_link link (link_in progress.stage)

abbrev pub other_than : Route → Option Route → Option Route
other_than r None = None
other_than r (Some other) = if same_route r other then None else Some other

-- the route whose flush got a link last, if it still has it
abbrev pub route_on_link : History → ℕ → Option Route
route_on_link [] link = None
route_on_link (OnRoute r outcome ∷ h) link =
    if uses_link link (progress_of outcome) then Some r else other_than r (route_on_link h link)
route_on_link (_ ∷ h) link = route_on_link h link
