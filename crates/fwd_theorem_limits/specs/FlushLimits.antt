-- Flushes in flight, counted from facts.
use Rattle.std.specs.Prelude.{◌≡◌, ℕ, ◌≤◌, ◌&&◌, Bool, true, false, if◌then◌else◌, [], ◌∷◌, length, Contains, filter, sum_by, Option, Some, None, is_none}
use Rattle.std.specs.List.{list_any}
use Rattle.fwd_base.specs.Limits.{most_peer_flushes}
use Rattle.fwd_table.specs.Usage.{is_file}
use Rattle.fwd_settings.specs.declared.settings_types.AllSettings.{AllSettings}
use Rattle.fwd_settings.specs.declared.settings_types.OutputSet.{OutputSet}
use Rattle.fwd_settings.specs.declared.settings_types.OutputKind.{OutputKind}
use Rattle.fwd_settings.specs.declared.settings_types.OutputKind.TheVariants as output_kind
use Rattle.fwd_model.specs.Fact.{History, Route, Outcome, FlushStarted, InFlight, OnRoute}
use Rattle.fwd_model.specs.Settings.{outputs_for}
use Rattle.fwd_model.specs.Chunks.{ChunkInfo, chunks_of, size}
use Rattle.fwd_model.specs.Routes.{same_route, route, home_of}

-- whether a flush is in flight after this outcome: it started, or goes on
abbrev pub leaves_in_flight : Outcome → Bool
leaves_in_flight (FlushStarted events) = true
leaves_in_flight (InFlight progress) = true
leaves_in_flight outcome = false

-- whether a flush of a route is in flight, by the last outcome of the route
abbrev pub is_in_flight : History → Route → Bool
is_in_flight [] r = false
is_in_flight (OnRoute other outcome ∷ h) r =
    if same_route other r then leaves_in_flight outcome else is_in_flight h r
is_in_flight (fact ∷ h) r = is_in_flight h r

-- how many chunks are in flight to an output
abbrev pub flight_count : History → ℕ → ℕ
flight_count h output =
    length (filter (λ (c : ChunkInfo). is_in_flight h (route c.number output)) (chunks_of h))

-- how many may be: one to a file or the standard output, and `most_peer_flushes` (4) to a peer
abbrev pub most_flights_of : OutputKind → ℕ
most_flights_of (output_kind.Stdout form) = 1
most_flights_of (output_kind.File folder file form) = 1
most_flights_of (output_kind.Tcp host port form) = most_peer_flushes
most_flights_of (output_kind.Forward host port ack whole_time) = most_peer_flushes
most_flights_of (output_kind.Http host port uri form options) = most_peer_flushes

abbrev pub most_flights : Option OutputSet → ℕ
most_flights None = 0
most_flights (Some output) = most_flights_of output.kind

-- whether a chunk is kept in a file, and in flight to an output that it matches
abbrev pub is_file_in_flight : AllSettings → History → ChunkInfo → Bool
is_file_in_flight s h c =
    is_file (home_of s c.input)
    && list_any (λ output. is_in_flight h (route c.number output)) (outputs_for s c.tag)

-- how many such chunks there are
abbrev pub files_in_flight : AllSettings → History → ℕ
files_in_flight s h = length (filter (is_file_in_flight s h) (chunks_of h))

-- whether a chunk is recovered, and in flight to an output that it matches
abbrev pub is_recovered_in_flight : AllSettings → History → ChunkInfo → Bool
is_recovered_in_flight s h c =
    is_none c.input && list_any (λ output. is_in_flight h (route c.number output)) (outputs_for s c.tag)

-- the bytes of these chunks
abbrev pub backlog_in_flight : AllSettings → History → ℕ
backlog_in_flight s h =
    sum_by (λ (c : ChunkInfo). size h c.number) (filter (is_recovered_in_flight s h) (chunks_of h))

-- they are no more than those of one recovered chunk
abbrev pub IsOneChunk : History → ℕ → Type 0
IsOneChunk h bytes =
    (c : ChunkInfo) × Contains (chunks_of h) c × (c.input ≡ None) × (bytes ≤ size h c.number)
