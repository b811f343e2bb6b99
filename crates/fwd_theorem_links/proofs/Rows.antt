-- Rows, limits, batches and the end of a run are the same on renamed links.
use Rattle.std.proofs.Common.{◌≡◌, ℕ, ◌+◌, ◌*◌, ◌^◌, ◌==◌, ◌&&◌, ◌||◌, nat_lt, not, Bool, false, if◌then◌else◌, List, [], length, map, Option, Some, None, is_some, refl, ap, ◌∙◌}
use Rattle.std.specs.Prelude.{filter, sum_by, nat_le, is_none, option_map}
use Rattle.std.specs.Option.{option_map_or}
use Rattle.std.specs.List.{flat_map, range_with_len}
use mathlib.Core.Path.{fun_ext}
use Rattle.fwd_base.specs.declared.ids.ChunkId.{ChunkId}
use Rattle.fwd_frames.specs.declared.line.Line.{Line}
use Rattle.fwd_frames.specs.Lines.{last_line}
use Rattle.fwd_in_tail.specs.Followed.{Followed, Polled as Poll, completed}
use Rattle.fwd_outside.specs.declared.happening.Happening.{Happening}
use Rattle.fwd_outside.specs.declared.happening.Happening.TheVariants as happening
use Rattle.fwd_retry.specs.declared.timer.Timer.{Timer}
use Rattle.fwd_table.specs.Row.{Row}
use Rattle.fwd_table.specs.Route.{Route as Owed}
use Rattle.fwd_table.specs.Rows.{idle_timers_of, row_at, is_route_idle, flights_to as flights_in}
use Rattle.fwd_table.specs.Usage.{is_file, memory_of}
use Rattle.fwd_event.specs.declared.event.Event.{Event}
use Rattle.fwd_limits.specs.Evictions.{evicted_for}
use Rattle.fwd_limits.specs.Backpressure.{reaches}
use Rattle.fwd_settings.specs.declared.settings_types.AllSettings.{AllSettings}
use Rattle.fwd_model.specs.Fact.{History, Stream, Route}
use Rattle.fwd_model.specs.Settings.{outputs_for, output_at, slots_at, total_limit_at, mem_limit_at}
use Rattle.fwd_model.specs.Clock.{clock, tick_count, stopped}
use Rattle.fwd_model.specs.Streams.{said}
use Rattle.fwd_model.specs.FollowedFiles.{file_at}
use Rattle.fwd_model.specs.Batches.{completed_lines, batch_of, piece_batch, end_batch, poll_batch}
use Rattle.fwd_model.specs.Chunks.{ChunkInfo, chunks_of, is_closed, chunk_at, size}
use Rattle.fwd_model.specs.Routes.{route, owed, is_owed, owes, table_route, home_of, input_id, row_of, rows_of, due, tries, flight, begun}
use Rattle.fwd_model.specs.Payloads.{tag_of_chunk, delivery, delivery_at}
use Rattle.fwd_model.specs.Limits.{evictions_to, evictions_for, evicted_at, is_paused, paused}
use Rattle.fwd_model.specs.Dispatch.{route_of, in_time, due_routes, may_start, fits_row}
use Rattle.fwd_model.specs.Notes.{is_empty}
use Rattle.fwd_model.specs.Run.{is_tick, is_end, is_grace_over, is_over, is_over_after, is_last_tick}
use Rattle.fwd_theorem_links.specs.RenamedLinks.{renamed_event}
use Rattle.fwd_theorem_links.proofs.Histories.{renamed, clock_same, tick_count_same, chunks_same, closed_same, size_same, chunk_same, tries_same, begun_same, in_flight_same, stopped_same, said_same, file_same, due_same, resolved_same}

module _ (rename : ℕ → ℕ) (s : AllSettings) where
  -- ---- pending outputs

  pub owed_same : (h : History) (c : ChunkInfo) → owed s (renamed rename h) c ≡ owed s h c
  owed_same h c = ap (λ (f : ℕ → Bool). filter f (outputs_for s c.tag)) (fun_ext (λ (output : ℕ). ap not (resolved_same rename s h (route c.number output))))

  is_owed_same : (h : History) (c : ChunkInfo) → is_owed s (renamed rename h) c ≡ is_owed s h c
  is_owed_same h c = ap (λ (l : List ℕ). not (length l == 0)) (owed_same h c)

  pub owes_same : (h : History) (chunk : ℕ) → owes s (renamed rename h) chunk ≡ owes s h chunk
  owes_same h chunk =
      ap (λ (o : Option ChunkInfo). option_map_or (is_owed s (renamed rename h)) o false) (chunk_same rename h chunk)
      ∙ ap (λ (f : ChunkInfo → Bool). option_map_or f (chunk_at h chunk) false) (fun_ext (λ (c : ChunkInfo). is_owed_same h c))

  -- ---- rows

  owed_with : ℕ → ℕ → ℕ → Bool → Owed
  owed_with output at tried flying = record { output = record { 0 = output }; due = at; tries = tried; flying = flying }

  table_route_same : (h : History) (chunk output : ℕ) → table_route s (renamed rename h) chunk output ≡ table_route s h chunk output
  unfolding owed_with
  table_route_same h chunk output =
      let r = route chunk output in
      ap (λ (n : ℕ). owed_with output n (tries (renamed rename h) r) (is_some (flight (renamed rename h) r))) (due_same rename s h r)
      ∙ ap (λ (n : ℕ). owed_with output (due s h r) n (is_some (flight (renamed rename h) r))) (tries_same rename h r)
      ∙ ap (λ (b : Bool). owed_with output (due s h r) (tries h r) b) (in_flight_same rename h r)

  row_with : ChunkInfo → ℕ → Bool → List Owed → Row
  row_with c long shut routes = record {
    chunk = record { 0 = c.number };
    input = option_map input_id c.input;
    home = home_of s c.input;
    tag = c.tag;
    size = long;
    shut = shut;
    routes = routes;
  }

  row_same : (h : History) (c : ChunkInfo) → row_of s (renamed rename h) c ≡ row_of s h c
  unfolding row_with
  row_same h c =
      ap (λ (n : ℕ). row_with c n (is_closed (renamed rename h) c.number) (map (table_route s (renamed rename h) c.number) (owed s (renamed rename h) c))) (size_same rename h c.number)
      ∙ ap (λ (b : Bool). row_with c (size h c.number) b (map (table_route s (renamed rename h) c.number) (owed s (renamed rename h) c))) (closed_same rename h c.number)
      ∙ ap (λ (f : ℕ → Owed). row_with c (size h c.number) (is_closed h c.number) (map f (owed s (renamed rename h) c))) (fun_ext (λ (output : ℕ). table_route_same h c.number output))
      ∙ ap (λ (l : List ℕ). row_with c (size h c.number) (is_closed h c.number) (map (table_route s h c.number) l)) (owed_same h c)

  pub rows_same : (h : History) → rows_of s (renamed rename h) ≡ rows_of s h
  rows_same h =
      ap (λ (cs : List ChunkInfo). map (row_of s (renamed rename h)) (filter (is_owed s (renamed rename h)) cs)) (chunks_same rename h)
      ∙ ap (λ (f : ChunkInfo → Bool). map (row_of s (renamed rename h)) (filter f (chunks_of h))) (fun_ext (λ (c : ChunkInfo). is_owed_same h c))
      ∙ ap (λ (f : ChunkInfo → Row). map f (filter (is_owed s h) (chunks_of h))) (fun_ext (λ (c : ChunkInfo). row_same h c))

  starts_by : Route → List Row → Bool
  starts_by r rows =
      is_route_idle (record { 0 = r.chunk }) (record { 0 = r.output }) rows && (nat_lt (flights_in (record { 0 = r.output }) rows) (slots_at (output_at s r.output)) && fits_row s rows (row_at (record { 0 = r.chunk }) rows))

  pub start_same : (h : History) (r : Route) → may_start s (renamed rename h) r ≡ may_start s h r
  unfolding starts_by
  start_same h r = ap (λ (rows : List Row). starts_by r rows) (rows_same h)

  due_by : ℕ → List Row → List Route
  due_by now rows = map route_of (in_time (filter (λ (t : Timer). nat_le t.due now) (idle_timers_of rows)))

  pub due_routes_same : (h : History) → due_routes s (renamed rename h) ≡ due_routes s h
  unfolding due_by
  due_routes_same h = ap (λ (n : ℕ). due_by n (rows_of s (renamed rename h))) (clock_same rename h) ∙ ap (λ (rows : List Row). due_by (clock h) rows) (rows_same h)

  -- ---- limits

  evictions_to_same : (h : History) (chunk output : ℕ) (limit : Option ℕ) → evictions_to s (renamed rename h) chunk output limit ≡ evictions_to s h chunk output limit
  evictions_to_same h chunk output None = refl
  evictions_to_same h chunk output (Some limit) = ap (λ (rows : List Row). map (λ (lost : ChunkId). route lost.0 output) (evicted_for (record { 0 = output }) limit (record { 0 = chunk }) rows)) (rows_same h)

  evictions_same : (h : History) (c : Option ChunkInfo) → evictions_for s (renamed rename h) c ≡ evictions_for s h c
  evictions_same h None = refl
  evictions_same h (Some c) =
      ap (λ (f : ℕ → List Route). if is_file (home_of s c.input) then flat_map f (owed s (renamed rename h) c) else []) (fun_ext (λ (output : ℕ). evictions_to_same h c.number output (total_limit_at s output)))
      ∙ ap (λ (l : List ℕ). if is_file (home_of s c.input) then flat_map (λ output. evictions_to s h c.number output (total_limit_at s output)) l else []) (owed_same h c)

  pub evicted_same : (h : History) (chunk : ℕ) → evicted_at s (renamed rename h) chunk ≡ evicted_at s h chunk
  evicted_same h chunk = ap (λ (c : Option ChunkInfo). evictions_for s (renamed rename h) c) (chunk_same rename h chunk) ∙ evictions_same h (chunk_at h chunk)

  pub is_paused_same : (h : History) (input : ℕ) → is_paused s (renamed rename h) input ≡ is_paused s h input
  is_paused_same h input =
      ap (λ (at : Option ℕ). is_some at || reaches (mem_limit_at s input) (memory_of input (rows_of s (renamed rename h)))) (stopped_same rename s h)
      ∙ ap (λ (rows : List Row). is_some (stopped s h) || reaches (mem_limit_at s input) (memory_of input rows)) (rows_same h)

  pub paused_same : (h : History) → paused s (renamed rename h) ≡ paused s h
  unfolding paused
  paused_same h = ap (λ (f : ℕ → ℕ). sum_by f (range_with_len 0 (length s.inputs))) (fun_ext (λ (input : ℕ). ap (λ (b : Bool). if b then 2 ^ input else 0) (is_paused_same h input)))

  -- ---- payloads and batches

  pub tag_of_chunk_same : (h : History) (chunk : ℕ) → tag_of_chunk (renamed rename h) chunk ≡ tag_of_chunk h chunk
  tag_of_chunk_same h chunk = ap (λ (c : Option ChunkInfo). option_map_or (λ (c : ChunkInfo). c.tag) c []) (chunk_same rename h chunk)

  pub delivery_same : (h : History) (r : Route) → delivery s (renamed rename h) r ≡ delivery s h r
  delivery_same h r =
      ap (λ (tag : List ℕ). delivery_at (output_at s r.output) tag r (begun (renamed rename h) r)) (tag_of_chunk_same h r.chunk)
      ∙ ap (λ (events : List Event). delivery_at (output_at s r.output) (tag_of_chunk h r.chunk) r events) (begun_same rename h r)

  batch_same : (h : History) (input : ℕ) (read : List Line) → batch_of s (renamed rename h) input read ≡ batch_of s h input read
  batch_same h input read = rw (clock_same rename h) refl

  pub piece_same : (h : History) (input : ℕ) (stream : Stream) (bytes : List ℕ) → piece_batch s (renamed rename h) input stream bytes ≡ piece_batch s h input stream bytes
  piece_same h input stream bytes =
      ap (λ (before : List ℕ). batch_of s (renamed rename h) input (completed_lines before bytes)) (said_same rename s h stream) ∙ batch_same h input (completed_lines (said s h stream) bytes)

  pub end_batch_same : (h : History) (input : ℕ) (stream : Stream) → end_batch s (renamed rename h) input stream ≡ end_batch s h input stream
  end_batch_same h input stream = ap (λ (before : List ℕ). batch_of s (renamed rename h) input (last_line before)) (said_same rename s h stream) ∙ batch_same h input (last_line (said s h stream))

  pub poll_same : (h : History) (input index : ℕ) (poll : Poll) → poll_batch s (renamed rename h) input index poll ≡ poll_batch s h input index poll
  poll_same h input index poll =
      ap (λ (file : Followed). batch_of s (renamed rename h) input (completed file poll)) (file_same rename s h input index) ∙ batch_same h input (completed (file_at s h input index) poll)

  -- ---- the end of a run

  pub end_same : (x : Happening) → is_end (renamed_event rename x) ≡ is_end x
  end_same (happening.Room link) = refl
  end_same (happening.Back link bytes) = refl
  end_same (happening.Broken link) = refl
  end_same x = refl

  pub tick_same : (x : Happening) → is_tick (renamed_event rename x) ≡ is_tick x
  tick_same (happening.Room link) = refl
  tick_same (happening.Back link bytes) = refl
  tick_same (happening.Broken link) = refl
  tick_same x = refl

  over_after_same : (x : Happening) (at : Option ℕ) (h : History) → is_over_after s (renamed_event rename x) at (renamed rename h) ≡ is_over_after s x at h
  over_after_same x None h = end_same x
  over_after_same x (Some at) h =
      ap (λ (b : Bool). b || (is_empty (rows_of s (renamed rename h)) || (is_tick (renamed_event rename x) && is_grace_over s at (renamed rename h)))) (end_same x)
      ∙ ap (λ (rows : List Row). is_end x || (is_empty rows || (is_tick (renamed_event rename x) && is_grace_over s at (renamed rename h)))) (rows_same h)
      ∙ ap (λ (b : Bool). is_end x || (is_empty (rows_of s h) || (b && is_grace_over s at (renamed rename h)))) (tick_same x)
      ∙ ap (λ (n : ℕ). is_end x || (is_empty (rows_of s h) || (is_tick x && nat_le (at + 1000 * s.service.grace_s) n))) (clock_same rename h)

  pub over_same : (x : Happening) (h : History) → is_over s (renamed_event rename x) (renamed rename h) ≡ is_over s x h
  unfolding is_over
  over_same x h = ap (λ (at : Option ℕ). is_over_after s (renamed_event rename x) at (renamed rename h)) (stopped_same rename s h) ∙ over_after_same x (stopped s h) h

  pub last_same : (ticks : Option ℕ) (x : Happening) (h : History) → is_last_tick s ticks (renamed_event rename x) (renamed rename h) ≡ is_last_tick s ticks x h
  last_same None x h = refl
  last_same (Some ticks) x h =
      ap (λ (b : Bool). b && (tick_count (renamed rename h) == ticks && is_none (stopped s (renamed rename h)))) (tick_same x)
      ∙ ap (λ (n : ℕ). is_tick x && (n == ticks && is_none (stopped s (renamed rename h)))) (tick_count_same rename h)
      ∙ ap (λ (at : Option ℕ). is_tick x && (tick_count h == ticks && is_none at)) (stopped_same rename s h)
