-- At each point of a run the flushes in flight are within their limits.
use Rattle.std.proofs.Common.{◌≡◌, ◌⊎◌, inl, inr, ⊎_elim, ℕ, ◌<◌, ◌≤◌, ◌&&◌, ◌||◌, nat_lt, not, Bool, true, false, cond, List, [], ◌∷◌, ◌++◌, length, filter, Option, Some, None, refl, sym, ◌∙◌, ap, subst, arith}
use Rattle.std.specs.Prelude.{Contains, ◌==◌}
use Rattle.std.specs.List.{list_any}
use Rattle.std.proofs.lemmas.Bool.{eqb-true, eq-eqb, ltb-true, and_parts, and_from, and_left, and_right, or_from}
use Rattle.fwd_outside.specs.Program.{Execution}
use Rattle.fwd_outside.specs.declared.ends.Ends.{Ends}
use Rattle.fwd_table.specs.Row.{Row}
use Rattle.fwd_table.specs.Rows.{flies_to}
use Rattle.fwd_table.specs.Usage.{is_file, in_file, flies, files_up}
use Rattle.fwd_settings.specs.declared.settings_types.AllSettings.{AllSettings}
use Rattle.fwd_settings.specs.declared.settings_types.OutputSet.{OutputSet}
use Rattle.fwd_settings.specs.declared.settings_types.OutputKind.{OutputKind}
use Rattle.fwd_settings.specs.declared.settings_types.OutputKind.TheVariants as output_kind
use Rattle.fwd_model.specs.Fact.{Fact, History, Batch, Placement, Route, Outcome, FlushStarted, InFlight, Retries, Delivered, Failed, Exhausted, Evicted, Found, Accepted, OnRoute}
use Rattle.fwd_model.specs.Trace.{Call, Action, TraceEntry, Note, history_after, history_after_call}
use Rattle.fwd_model.specs.Settings.{output_at, outputs_for, places_of, slots_at}
use Rattle.fwd_model.specs.RecoveredFile.{recovered_chunk}
use Rattle.fwd_model.specs.Chunks.{ChunkInfo, recovered_info, created_info, chunks_of}
use Rattle.fwd_model.specs.Routes.{same_route, route, resolves, is_resolved, home_of, owed, is_owed, row_of, rows_of, flights_to, is_idle}
use Rattle.fwd_model.specs.Dispatch.{has_place, fits_backlog, fits_row, fits, may_start}
use Rattle.fwd_model.specs.Run.{RunResult, life}
use Rattle.fwd_theorem_trace.specs.Past.{Past, logged, past_after}
use Rattle.fwd_theorem_trace.specs.Allowed.{IsLoading, FactAllowed, IsAllowed, Allowed}
use Rattle.fwd_theorem_trace.specs.Sound.{NumbersRise}
use Rattle.fwd_theorem_trace.proofs.Members.{off_where_not}
use Rattle.fwd_theorem_trace.proofs.Traversal.{noted_since}
use Rattle.fwd_theorem_trace.proofs.Persistence.{chunk_still}
use Rattle.fwd_theorem_trace.proofs.RouteResolution.{same_routes, owed_as_unresolved}
use Rattle.fwd_theorem_trace.proofs.Run.{due_since}
use Rattle.fwd_theorem_trace.proofs.Invariant.{sound}
use Rattle.fwd_theorem_delivery.proofs.TimedFacts.{RouteTimed, FactTimed, Timed, NoneBegun}
use Rattle.fwd_theorem_delivery.proofs.TimedRun.{timed_life}
use Rattle.fwd_theorem_limits.specs.FlushLimits.{leaves_in_flight, is_in_flight, flight_count, most_flights_of, most_flights, is_file_in_flight, files_in_flight}
use Rattle.fwd_theorem_limits.proofs.Counts.{count_le, count_append, count_map, one_number, rise_apart, count_one}
use Rattle.fwd_theorem_limits.proofs.Flights.{on_way, has_progress, any_of, one_of, IsPending, owed_is_owed, row_flies_to, row_flies, flies_for, idle_pending}

same_most : (output : Option OutputSet) → slots_at output ≡ most_flights output
same_most None = refl
same_most (Some output) = by output.kind
  where
    by : (kind : OutputKind) → places_of kind ≡ most_flights_of kind
    by (output_kind.Stdout form) = refl
    by (output_kind.File folder file form) = refl
    by (output_kind.Tcp host port form) = refl
    by (output_kind.Forward host port ack whole_time) = refl
    by (output_kind.Http host port uri form options) = refl

module _ (s : AllSettings) where
  -- what is in flight is pending, and within the limits
  abbrev pub Bounded : History → Type 0
  Bounded h =
      ((r : Route) → is_in_flight h r ≡ true → IsPending s h r) × ((output : ℕ) → flight_count h output ≤ slots_at (output_at s output)) × (files_in_flight s h ≤ s.service.max_up)

  abbrev to_output : History → ℕ → ChunkInfo → Bool
  to_output h output c = is_in_flight h (route c.number output)

  -- ---- an outcome of a route

  module _ (q : Route) (outcome : Outcome) (h : History) where
    abbrev pub now : History
    now = OnRoute q outcome ∷ h

    stays_pending : (r : Route) → same_route q r && resolves outcome ≡ false → IsPending s h r → IsPending s now r
    stays_pending r off (c, among, number, has) =
        let was = (owed_as_unresolved s h c r.output).0 has in
        let same : route c.number r.output ≡ r = ap (λ (n : ℕ). route n r.output) number in
        let still : is_resolved s now (route c.number r.output) ≡ false = subst (λ (x : Route). is_resolved s now x ≡ false) (sym same) (or_from (same_route q r && resolves outcome) (is_resolved s h r) off (subst (λ (x : Route). is_resolved s h x ≡ false) same was.1)) in
        (c, among, number, (owed_as_unresolved s now c r.output).1 (was.0, still))

    leaves_unresolved : (o : Outcome) → leaves_in_flight o ≡ true → resolves o ≡ false
    leaves_unresolved (FlushStarted events) is = refl
    leaves_unresolved (InFlight progress) is = refl
    leaves_unresolved o is = absurd (cc is)

    -- what is in flight is pending, if this route is
    pending_now : (leaves_in_flight outcome ≡ true → IsPending s h q) → ((r : Route) → is_in_flight h r ≡ true → IsPending s h r) → (r : Route) → is_in_flight now r ≡ true → IsPending s now r
    pending_now own was r is = by (same_route q r) refl is
      where
        by : (b : Bool) → same_route q r ≡ b → cond b (leaves_in_flight outcome) (is_in_flight h r) ≡ true → IsPending s now r
        by true same leaves =
            stays_pending r (and_right (same_route q r) (resolves outcome) (leaves_unresolved outcome leaves)) (subst (IsPending s h) (same_routes q r same) (own leaves))
        by false other before = stays_pending r (and_left (same_route q r) (resolves outcome) other) (was r before)

    -- no more is in flight than before
    not_more : ((r : Route) → is_in_flight now r ≡ true → is_in_flight h r ≡ true) → Bounded h → (leaves_in_flight outcome ≡ true → IsPending s h q) → Bounded now
    not_more before was own =
        let all : (output : ℕ) → flight_count now output ≤ slots_at (output_at s output) =
        λ output.
        let le = count_le (to_output now output) (to_output h output) (chunks_of h) (λ c has is. before (route c.number output) is) in
        let most = was.1 output in
        omega (arith, le, most) in
        let fewer = count_le (is_file_in_flight s now) (is_file_in_flight s h) (chunks_of h) (λ c has is. file_before c is) in
        let files = was.2 in
        (pending_now own was.0, all, omega (arith, fewer, files))
      where
        file_before : (c : ChunkInfo) → is_file_in_flight s now c ≡ true → is_file_in_flight s h c ≡ true
        file_before c is =
            let parts = and_parts (is_file (home_of s c.input)) _ is in
            let one = one_of (λ output. is_in_flight now (route c.number output)) (outputs_for s c.tag) parts.1 in
            and_from (is_file (home_of s c.input)) _ parts.0 (any_of (λ output. is_in_flight h (route c.number output)) (outputs_for s c.tag) one.0 one.1 (before (route c.number one.0) one.2))

    pub ends_flight : leaves_in_flight outcome ≡ false → (r : Route) → is_in_flight now r ≡ true → is_in_flight h r ≡ true
    ends_flight off r is = by (same_route q r) is
      where
        by : (b : Bool) → cond b (leaves_in_flight outcome) (is_in_flight h r) ≡ true → is_in_flight h r ≡ true
        by true leaves = absurd (cc (sym off ∙ leaves))
        by false before = before

    pub goes_on : is_in_flight h q ≡ true → (r : Route) → is_in_flight now r ≡ true → is_in_flight h r ≡ true
    goes_on flies r is = by (same_route q r) refl is
      where
        by : (b : Bool) → same_route q r ≡ b → cond b (leaves_in_flight outcome) (is_in_flight h r) ≡ true → is_in_flight h r ≡ true
        by true same leaves = subst (λ (x : Route). is_in_flight h x ≡ true) (same_routes q r same) flies
        by false other before = before

  -- ---- a flush starts

  module _ (q : Route) (outcome : Outcome) (h : History) (leaves : leaves_in_flight outcome ≡ true) (rise : NumbersRise (chunks_of h)) (calm : NoneBegun h) (may : may_start s h q ≡ true) (was : Bounded h) where
    abbrev pub started : History
    started = OnRoute q outcome ∷ h

    pub idle : is_idle s h q ≡ true
    idle = (and_parts (is_idle s h q) (has_place s h q && fits s h q) may).0

    place : has_place s h q ≡ true
    place = (and_parts (has_place s h q) (fits s h q) (and_parts (is_idle s h q) (has_place s h q && fits s h q) may).1).0

    pub room : fits s h q ≡ true
    room = (and_parts (has_place s h q) (fits s h q) (and_parts (is_idle s h q) (has_place s h q && fits s h q) may).1).1

    -- what is in flight is pending in the table
    pub pending_of : (c : ChunkInfo) (output : ℕ) → Contains (chunks_of h) c → is_in_flight h (route c.number output) ≡ true → Contains (owed s h c) output
    pending_of c output among is =
        let pending = was.0 (route c.number output) is in
        subst (λ (d : ChunkInfo). Contains (owed s h d) output) (one_number (chunks_of h) pending.0 c rise pending.1 among pending.2) pending.3

    counted_rows : (output : ℕ) → flight_count h output ≤ flights_to s h output
    counted_rows output =
        let rows = count_map (is_owed s h) (row_of s h) (flies_to (record { 0 = output })) (chunks_of h) in
        let le = count_le (to_output h output) (λ c. is_owed s h c && flies_to (record { 0 = output }) (row_of s h c)) (chunks_of h)
        (λ c has is.
        let owes = pending_of c output has is in
        and_from (is_owed s h c) (flies_to (record { 0 = output }) (row_of s h c)) (owed_is_owed s h c output owes) (row_flies_to s h c output owes (has_progress h (route c.number output) is (calm (route c.number output))))) in
        omega (arith, rows, le)

    counted_files : files_in_flight s h ≤ files_up (rows_of s h)
    counted_files =
        let rows = count_map (is_owed s h) (row_of s h) (λ (row : Row). in_file row && flies row) (chunks_of h) in
        let le = count_le (is_file_in_flight s h) (λ c. is_owed s h c && (in_file (row_of s h c) && flies (row_of s h c))) (chunks_of h)
        (λ c has is.
        let parts = and_parts (is_file (home_of s c.input)) _ is in
        let one = one_of (λ output. is_in_flight h (route c.number output)) (outputs_for s c.tag) parts.1 in
        let owes = pending_of c one.0 has one.2 in
        and_from (is_owed s h c) (in_file (row_of s h c) && flies (row_of s h c)) (owed_is_owed s h c one.0 owes)
        (and_from (in_file (row_of s h c)) (flies (row_of s h c)) parts.0 (row_flies s h c one.0 owes (has_progress h (route c.number one.0) one.2 (calm (route c.number one.0)))))) in
        omega (arith, rows, le)

    -- routes of other chunks are as before
    pub other_chunk : (c : ChunkInfo) (output : ℕ) → (c.number == q.chunk) ≡ false → is_in_flight started (route c.number output) ≡ true → is_in_flight h (route c.number output) ≡ true
    other_chunk c output apart is = by (same_route q (route c.number output)) refl is
      where
        by : (b : Bool) → same_route q (route c.number output) ≡ b → cond b (leaves_in_flight outcome) (is_in_flight h (route c.number output)) ≡ true → is_in_flight h (route c.number output) ≡ true
        by true same now = absurd (cc (sym apart ∙ eq-eqb c.number q.chunk (sym (ap (λ (r : Route). r.chunk) (same_routes q (route c.number output) same)))))
        by false other before = before

    other_output : (c : ChunkInfo) (output : ℕ) → (q.output == output) ≡ false → is_in_flight started (route c.number output) ≡ true → is_in_flight h (route c.number output) ≡ true
    other_output c output apart is = by (same_route q (route c.number output)) refl is
      where
        by : (b : Bool) → same_route q (route c.number output) ≡ b → cond b (leaves_in_flight outcome) (is_in_flight h (route c.number output)) ≡ true → is_in_flight h (route c.number output) ≡ true
        by true same now = absurd (cc (sym apart ∙ eq-eqb q.output output (ap (λ (r : Route). r.output) (same_routes q (route c.number output) same))))
        by false other before = before

    slots_now : (output : ℕ) → flight_count started output ≤ slots_at (output_at s output)
    slots_now output = by (q.output == output) refl
      where
        by : (b : Bool) → (q.output == output) ≡ b → flight_count started output ≤ slots_at (output_at s output)
        by true is =
            let same = eqb-true q.output output is in
            let one = count_one (to_output started output) (to_output h output) q.chunk (chunks_of h) rise (λ c has apart now. other_chunk c output apart now) in
            let rows = counted_rows output in
            let less = subst (λ (o : ℕ). flights_to s h o < slots_at (output_at s o)) same (ltb-true (flights_to s h q.output) (slots_at (output_at s q.output)) place) in
            omega (arith, one, rows, less)
        by false apart =
            let le = count_le (to_output started output) (to_output h output) (chunks_of h) (λ c has now. other_output c output apart now) in
            let most = was.1 output in
            omega (arith, le, most)

    -- the file of another chunk is in flight as before
    other_file : (c : ChunkInfo) → (c.number == q.chunk) ≡ false → is_file_in_flight s started c ≡ true → is_file_in_flight s h c ≡ true
    other_file c apart is =
        let parts = and_parts (is_file (home_of s c.input)) _ is in
        let one = one_of (λ output. is_in_flight started (route c.number output)) (outputs_for s c.tag) parts.1 in
        and_from (is_file (home_of s c.input)) _ parts.0 (any_of (λ output. is_in_flight h (route c.number output)) (outputs_for s c.tag) one.0 one.1 (other_chunk c one.0 apart one.2))

    files_as_before : ((c : ChunkInfo) → Contains (chunks_of h) c → (c.number == q.chunk) ≡ true → is_file_in_flight s started c ≡ true → is_file_in_flight s h c ≡ true) → files_in_flight s started ≤ s.service.max_up
    files_as_before own =
        let le = count_le (is_file_in_flight s started) (is_file_in_flight s h) (chunks_of h) (λ c has is. by c has (c.number == q.chunk) refl is) in
        let most = was.2 in
        omega (arith, le, most)
      where
        by : (c : ChunkInfo) → Contains (chunks_of h) c → (b : Bool) → (c.number == q.chunk) ≡ b → is_file_in_flight s started c ≡ true → is_file_in_flight s h c ≡ true
        by c has true same is = own c has same is
        by c has false apart is = other_file c apart is

    or_cases : (a b : Bool) → a || b ≡ true → (a ≡ true) ⊎ (b ≡ true)
    or_cases true b is = inl refl
    or_cases false b is = inr is

    -- the chunk of the route
    module _ (d : ChunkInfo) (among : Contains (chunks_of h) d) (number : d.number ≡ q.chunk) where
      is_its : (c : ChunkInfo) → Contains (chunks_of h) c → (c.number == q.chunk) ≡ true → d ≡ c
      is_its c has same = one_number (chunks_of h) d c rise among has (number ∙ sym (eqb-true c.number q.chunk same))

      in_memory : is_file (home_of s d.input) ≡ false → files_in_flight s started ≤ s.service.max_up
      in_memory no_file =
          files_as_before
          (λ c has same is.
          let file = (and_parts (is_file (home_of s c.input)) _ is).0 in
          absurd (cc (sym no_file ∙ (ap (λ (x : ChunkInfo). is_file (home_of s x.input)) (is_its c has same) ∙ file))))

      up_already : flies (row_of s h d) ≡ true → files_in_flight s started ≤ s.service.max_up
      up_already flying =
          files_as_before
          (λ c has same is.
          let file = (and_parts (is_file (home_of s c.input)) _ is).0 in
          let one = flies_for s h d flying in
          and_from (is_file (home_of s c.input)) _ file
          (subst (λ (x : ChunkInfo). list_any (λ output. is_in_flight h (route x.number output)) (outputs_for s x.tag) ≡ true) (is_its c has same)
          (any_of (λ output. is_in_flight h (route d.number output)) (outputs_for s d.tag) one.0 one.1 one.2)))

      one_more : nat_lt (files_up (rows_of s h)) s.service.max_up ≡ true → files_in_flight s started ≤ s.service.max_up
      one_more less =
          let up = ltb-true (files_up (rows_of s h)) s.service.max_up less in
          let one = count_one (is_file_in_flight s started) (is_file_in_flight s h) q.chunk (chunks_of h) rise (λ c has apart is. other_file c apart is) in
          let rows = counted_files in
          omega (arith, one, rows, up)

      by_room : fits_row s (rows_of s h) (Some (row_of s h d)) ≡ true → files_in_flight s started ≤ s.service.max_up
      by_room may =
          ⊎_elim (λ (memory : not (in_file (row_of s h d)) ≡ true). in_memory (off_where_not (in_file (row_of s h d)) memory))
          (λ (file : flies (row_of s h d) || (nat_lt (files_up (rows_of s h)) s.service.max_up && fits_backlog s.service.backlog_limit (rows_of s h) (row_of s h d)) ≡ true).
          ⊎_elim (λ (flying : flies (row_of s h d) ≡ true). up_already flying)
          (λ (both : nat_lt (files_up (rows_of s h)) s.service.max_up && fits_backlog s.service.backlog_limit (rows_of s h) (row_of s h d) ≡ true). one_more (and_parts (nat_lt (files_up (rows_of s h)) s.service.max_up) _ both).0)
          (or_cases (flies (row_of s h d)) _ file))
          (or_cases (not (in_file (row_of s h d))) _ may)

    files_now : files_in_flight s started ≤ s.service.max_up
    files_now =
        let found = idle_pending s h q idle in
        by_room found.0 found.1 found.2 (subst (λ (o : Option Row). fits_row s (rows_of s h) o ≡ true) found.4 room)

    starts_bounded : Bounded started
    starts_bounded =
        let found = idle_pending s h q idle in
        (pending_now q outcome h (λ is. (found.0, found.1, found.2, found.3)) was.0, slots_now, files_now)

  -- ---- each fact

  outcome_bounded : (q : Route) (outcome : Outcome) (past : Past) → FactAllowed s (OnRoute q outcome) past → RouteTimed s q outcome (logged past) → NumbersRise (chunks_of (logged past)) → Bounded (logged past)
      → Bounded (OnRoute q outcome ∷ logged past)
  outcome_bounded q (FlushStarted events) past due timed rise was = starts_bounded q (FlushStarted events) (logged past) refl rise timed.1.1.0 due.1 was
  outcome_bounded q (InFlight progress) past due timed rise was =
      let flies = on_way (logged past) q timed in
      not_more q (InFlight progress) (logged past) (goes_on q (InFlight progress) (logged past) flies) was (λ is. was.0 q flies)
  outcome_bounded q (Retries word) past due timed rise was = not_more q (Retries word) (logged past) (ends_flight q (Retries word) (logged past) refl) was (λ is. absurd (cc is))
  outcome_bounded q Delivered past due timed rise was = not_more q Delivered (logged past) (ends_flight q Delivered (logged past) refl) was (λ is. absurd (cc is))
  outcome_bounded q Failed past due timed rise was = not_more q Failed (logged past) (ends_flight q Failed (logged past) refl) was (λ is. absurd (cc is))
  outcome_bounded q Exhausted past due timed rise was = not_more q Exhausted (logged past) (ends_flight q Exhausted (logged past) refl) was (λ is. absurd (cc is))
  outcome_bounded q Evicted past due timed rise was = not_more q Evicted (logged past) (ends_flight q Evicted (logged past) refl) was (λ is. absurd (cc is))

  pub nothing_flies : (h : History) → IsLoading h → (r : Route) → is_in_flight h r ≡ false
  nothing_flies [] loading r = refl
  nothing_flies (Found number stream name bytes ∷ h) loading r = nothing_flies h loading.1 r
  nothing_flies (fact ∷ h) loading r = absurd loading

  no_file_flies : (h : History) (c : ChunkInfo) → ((output : ℕ) → is_in_flight h (route c.number output) ≡ false) → is_file_in_flight s h c ≡ false
  no_file_flies h c none = by (is_file_in_flight s h c) refl
    where
      by : (b : Bool) → is_file_in_flight s h c ≡ b → b ≡ false
      by true is =
          let one = one_of (λ output. is_in_flight h (route c.number output)) (outputs_for s c.tag) (and_parts (is_file (home_of s c.input)) _ is).1 in
          absurd (cc (sym (none one.0) ∙ one.2))
      by false is = refl

  -- new chunks aren't in flight
  new_chunks : (h : History) (ds : List ChunkInfo) → ((c : ChunkInfo) → Contains ds c → (output : ℕ) → is_in_flight h (route c.number output) ≡ false) → Bounded h
      → ((output : ℕ) → length (filter (to_output h output) (chunks_of h ++ ds)) ≤ slots_at (output_at s output)) × (length (filter (is_file_in_flight s h) (chunks_of h ++ ds)) ≤ s.service.max_up)
  new_chunks h ds none was = (
    λ output.
        let same = count_append (to_output h output) (chunks_of h) ds (λ c has. none c has output) in
        let most = was.1 output in
        omega (arith, same, most),
    let same = count_append (is_file_in_flight s h) (chunks_of h) ds (λ c has. no_file_flies h c (none c has)) in
        let most = was.2 in
        omega (arith, same, most),
  )

  accepted_bounded : (b : Batch) (place : Placement) (h : History) → NumbersRise (chunks_of h ++ created_info b place) → Bounded h → Bounded (Accepted b place ∷ h)
  accepted_bounded b place h rise was =
      let more = new_chunks h (created_info b place) none was in
      ((λ r is. let pending = was.0 r is in (pending.0, chunk_still (Accepted b place) h pending.0 pending.1, pending.2, pending.3)), more.0, more.1)
    where
      none : (c : ChunkInfo) → Contains (created_info b place) c → (output : ℕ) → is_in_flight h (route c.number output) ≡ false
      none c has output = by (is_in_flight h (route c.number output)) refl
        where
          by : (flies : Bool) → is_in_flight h (route c.number output) ≡ flies → flies ≡ false
          by true is =
              let pending = was.0 (route c.number output) is in
              let less = rise_apart (chunks_of h) (created_info b place) pending.0 c rise pending.1 has in
              let number = pending.2 in
              absurd (omega (arith, less, number))
          by false is = refl

  found_bounded : (number : ℕ) (stream name bytes : List ℕ) (h : History) → IsLoading h → Bounded h → Bounded (Found number stream name bytes ∷ h)
  found_bounded number stream name bytes h loading was =
      let more = new_chunks h (recovered_info number (recovered_chunk bytes)) (λ c has output. nothing_flies h loading (route c.number output)) was in
      ((λ r is. absurd (cc (sym (nothing_flies h loading r) ∙ is))), more.0, more.1)

  fact_bounded : (fact : Fact) (past : Past) → FactAllowed s fact past → FactTimed s fact (logged past) → NumbersRise (chunks_of (fact ∷ logged past)) → NumbersRise (chunks_of (logged past)) → Bounded (logged past)
      → Bounded (fact ∷ logged past)
  fact_bounded (OnRoute q outcome) past due timed rise rose was = outcome_bounded q outcome past due timed rose was
  fact_bounded (Accepted b place) past due timed rise rose was = accepted_bounded b place (logged past) rise was
  fact_bounded (Found number stream name bytes) past due timed rise rose was = found_bounded number stream name bytes (logged past) due.1 was
  fact_bounded fact past due timed rise rose was = was

  call_bounded : (call : Call) (past : Past) → IsAllowed s call past → Timed s (history_after_call call (logged past)) → NumbersRise (chunks_of (history_after_call call (logged past))) → NumbersRise (chunks_of (logged past))
      → (Timed s (logged past) → Bounded (logged past)) → Bounded (history_after_call call (logged past))
  call_bounded (Note fact) past due timed rise rose was = fact_bounded fact past due timed.0 rise rose (was timed.1)
  call_bounded call past due timed rise rose was = was timed

  pub bounded : (past : Past) → Allowed s past → Timed s (logged past) → Bounded (logged past)
  bounded [] due timed = ((λ r is. absurd (cc is)), (λ output. omega arith), omega arith)
  bounded (e ∷ past) due timed =
      call_bounded e.call past due.0 timed (sound s (e ∷ past) due).rising (sound s past due.1).rising (bounded past due.1)

  bounded_life : (ends : Ends) (ticks : Option ℕ) (turns : ℕ) (es : List TraceEntry) (left : Action RunResult) → Execution (life s ends ticks turns) es left → Bounded (history_after es [])
  bounded_life ends ticks turns es left way =
      subst Bounded (noted_since [] es) (bounded (past_after [] es) (due_since s ends ticks turns es left way) (timed_life s ends ticks turns es left way))

  pub few_flights : (ends : Ends) (ticks : Option ℕ) (turns : ℕ) (es : List TraceEntry) (left : Action RunResult) (output : ℕ) → Execution (life s ends ticks turns) es left
      → flight_count (history_after es []) output ≤ most_flights (output_at s output)
  few_flights ends ticks turns es left output way =
      subst (λ (n : ℕ). flight_count (history_after es []) output ≤ n) (same_most (output_at s output)) ((bounded_life ends ticks turns es left way).1 output)

  pub few_files : (ends : Ends) (ticks : Option ℕ) (turns : ℕ) (es : List TraceEntry) (left : Action RunResult) → Execution (life s ends ticks turns) es left → files_in_flight s (history_after es []) ≤ s.service.max_up
  few_files ends ticks turns es left way = (bounded_life ends ticks turns es left way).2
