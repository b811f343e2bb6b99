-- The recovered chunks in flight fit the backlog limit, or are no larger than one of them.
use Rattle.std.proofs.Common.{◌≡◌, ◌⊎◌, inl, inr, ⊎_elim, ℕ, ◌+◌, ◌≤◌, ◌&&◌, ◌||◌, nat_lt, not, Bool, true, false, List, [], ◌∷◌, filter, Option, Some, None, refl, sym, ◌∙◌, ap, subst, arith}
use Rattle.std.specs.Prelude.{Contains, ◌==◌, nat_le, sum_by, is_none, option_map}
use Rattle.std.proofs.lemmas.Bool.{eqb-true, leb-true, and_parts, and_from, and_left}
use Rattle.fwd_outside.specs.Program.{Execution}
use Rattle.fwd_outside.specs.declared.ends.Ends.{Ends}
use Rattle.fwd_table.specs.Row.{Row}
use Rattle.fwd_table.specs.Usage.{is_file, in_file, is_recovered, is_recovered_row, flies, files_up, found_up}
use Rattle.fwd_settings.specs.declared.settings_types.AllSettings.{AllSettings}
use Rattle.fwd_model.specs.Fact.{Fact, History, Batch, Placement, Route, Outcome, FlushStarted, InFlight, Retries, Delivered, Failed, Exhausted, Evicted, Found, Accepted, OnRoute}
use Rattle.fwd_model.specs.Trace.{Call, Action, TraceEntry, Note, history_after, history_after_call}
use Rattle.fwd_model.specs.Settings.{outputs_for}
use Rattle.fwd_model.specs.Chunks.{ChunkInfo, created_info, chunks_of, is_closed, is_stored_in, size}
use Rattle.fwd_model.specs.Routes.{route, home_of, is_owed, input_id, row_of, rows_of}
use Rattle.fwd_model.specs.Dispatch.{fits_backlog, fits_row, may_start}
use Rattle.fwd_model.specs.Run.{RunResult, life}
use Rattle.fwd_theorem_trace.specs.Past.{Past, logged, past_after}
use Rattle.fwd_theorem_trace.specs.Allowed.{IsLoading, FactAllowed, IsAllowed, Allowed}
use Rattle.fwd_theorem_trace.specs.Sound.{NumbersRise}
use Rattle.fwd_theorem_trace.proofs.Members.{off_where_not}
use Rattle.fwd_theorem_trace.proofs.Persistence.{chunk_still}
use Rattle.fwd_theorem_trace.proofs.Traversal.{noted_since}
use Rattle.fwd_theorem_trace.proofs.Run.{due_since}
use Rattle.fwd_theorem_trace.proofs.Invariant.{sound}
use Rattle.fwd_theorem_delivery.proofs.TimedFacts.{RouteTimed, FactTimed, Timed, NoneBegun}
use Rattle.fwd_theorem_delivery.proofs.TimedRun.{timed_life}
use Rattle.fwd_theorem_limits.specs.FlushLimits.{leaves_in_flight, is_in_flight, is_recovered_in_flight, backlog_in_flight, IsOneChunk}
use Rattle.fwd_theorem_limits.proofs.Counts.{one_number}
use Rattle.fwd_theorem_limits.proofs.Sums.{sum_le, sum_map, sum_append, sum_one_more}
use Rattle.fwd_theorem_limits.proofs.Flights.{on_way, has_progress, any_of, one_of, owed_is_owed, row_flies, flies_for, idle_pending}
use Rattle.fwd_theorem_limits.proofs.FlightLimits.{Bounded, bounded, ends_flight, goes_on, idle, room, pending_of, other_chunk, nothing_flies}
use Rattle.fwd_theorem_limits.proofs.StoredChunks.{created_open, recovered_shut, stored_open}

or_cases : (a b : Bool) → a || b ≡ true → (a ≡ true) ⊎ (b ≡ true)
or_cases true b is = inl refl
or_cases false b is = inr is

-- ---- rows of recovered chunks

recovered_row : (input : Option ℕ) → is_none input ≡ true → is_recovered (option_map input_id input) ≡ true
recovered_row None is = refl
recovered_row (Some input) is = absurd (cc is)

no_recovered_row : (input : Option ℕ) → is_recovered (option_map input_id input) ≡ false → is_none input ≡ false
no_recovered_row None is = absurd (cc is)
no_recovered_row (Some input) is = refl

recovered_file : (s : AllSettings) (input : Option ℕ) → is_file (home_of s input) ≡ false → is_none input ≡ false
recovered_file s None is = absurd (cc is)
recovered_file s (Some input) is = refl

none_of : (input : Option ℕ) → is_none input ≡ true → input ≡ None
none_of None is = refl
none_of (Some input) is = absurd (cc is)

module _ (s : AllSettings) where
  abbrev Fits : History → Type 0
  Fits h = (backlog_in_flight s h ≤ s.service.backlog_limit) ⊎ IsOneChunk h (backlog_in_flight s h)

  -- recovered chunks are as before
  abbrev Keeps : History → History → Type 0
  Keeps h now = (c : ChunkInfo) → Contains (chunks_of h) c → is_none c.input ≡ true → Contains (chunks_of now) c × (size now c.number ≡ size h c.number)

  weaker : (h now : History) → backlog_in_flight s now ≤ backlog_in_flight s h → Keeps h now → Fits h → Fits now
  weaker h now less keeps (inl fit) = inl (omega (arith, less, fit))
  weaker h now less keeps (inr one) =
      let kept = keeps one.0 one.1 (ap is_none one.2) in
      let most = one.3 in
      let same = kept.1 in
      inr (one.0, kept.0, one.2, omega (arith, less, most, same))

  -- what a chunk's flights are
  recovered_parts : (h : History) (c : ChunkInfo) → is_recovered_in_flight s h c ≡ true → (is_none c.input ≡ true) × (output : ℕ) × Contains (outputs_for s c.tag) output × (is_in_flight h (route c.number output) ≡ true)
  recovered_parts h c is =
      let parts = and_parts (is_none c.input) _ is in
      let one = one_of (λ output. is_in_flight h (route c.number output)) (outputs_for s c.tag) parts.1 in
      (parts.0, one.0, one.1, one.2)

  recovered_from : (h : History) (c : ChunkInfo) (output : ℕ) → is_none c.input ≡ true → Contains (outputs_for s c.tag) output → is_in_flight h (route c.number output) ≡ true → is_recovered_in_flight s h c ≡ true
  recovered_from h c output recovered matches flies = and_from (is_none c.input) _ recovered (any_of (λ o. is_in_flight h (route c.number o)) (outputs_for s c.tag) output matches flies)

  -- ---- an outcome that starts nothing

  not_more : (q : Route) (outcome : Outcome) (h : History) → ((r : Route) → is_in_flight (OnRoute q outcome ∷ h) r ≡ true → is_in_flight h r ≡ true) → Fits h → Fits (OnRoute q outcome ∷ h)
  not_more q outcome h before was =
      let now : History = OnRoute q outcome ∷ h in
      let less = sum_le (λ (c : ChunkInfo). size h c.number) (λ (c : ChunkInfo). size h c.number) (is_recovered_in_flight s now) (is_recovered_in_flight s h) (chunks_of h)
      (λ c has is. let parts = recovered_parts now c is in (recovered_from h c parts.1 parts.0 parts.2 (before (route c.number parts.1) parts.3), refl)) in
      weaker h now less (λ c has recovered. (has, refl)) was

  -- ---- a flush starts

  module _ (q : Route) (outcome : Outcome) (h : History) (leaves : leaves_in_flight outcome ≡ true) (rise : NumbersRise (chunks_of h)) (calm : NoneBegun h) (may : may_start s h q ≡ true) (was : Bounded s h) (fits : Fits h) where
    abbrev started : History
    started = OnRoute q outcome ∷ h

    counted_rows : backlog_in_flight s h ≤ found_up (rows_of s h)
    counted_rows =
        let images = sum_map (is_owed s h) (row_of s h) (λ (row : Row). row.size) (λ (row : Row). is_recovered_row row && flies row) (chunks_of h) in
        let less = sum_le (λ (c : ChunkInfo). size h c.number) (λ (c : ChunkInfo). size h c.number) (is_recovered_in_flight s h) (λ c. is_owed s h c && (is_recovered_row (row_of s h c) && flies (row_of s h c))) (chunks_of h)
        (λ c has is.
        let parts = recovered_parts h c is in
        let owes = pending_of s q outcome h leaves rise calm may was c parts.1 has parts.3 in (
          and_from (is_owed s h c) (is_recovered_row (row_of s h c) && flies (row_of s h c)) (owed_is_owed s h c parts.1 owes)
              (and_from (is_recovered_row (row_of s h c)) (flies (row_of s h c)) (recovered_row c.input parts.0)
              (row_flies s h c parts.1 owes (has_progress h (route c.number parts.1) parts.3 (calm (route c.number parts.1))))),
          refl,
        )) in
        omega (arith, images, less)

    other_as_before : (c : ChunkInfo) → (c.number == q.chunk) ≡ false → is_recovered_in_flight s started c ≡ true → is_recovered_in_flight s h c ≡ true
    other_as_before c apart is =
        let parts = recovered_parts started c is in
        recovered_from h c parts.1 parts.0 parts.2 (other_chunk s q outcome h leaves rise calm may was c parts.1 apart parts.3)

    as_before : ((c : ChunkInfo) → Contains (chunks_of h) c → (c.number == q.chunk) ≡ true → is_recovered_in_flight s started c ≡ true → is_recovered_in_flight s h c ≡ true) → Fits started
    as_before own =
        let less = sum_le (λ (c : ChunkInfo). size h c.number) (λ (c : ChunkInfo). size h c.number) (is_recovered_in_flight s started) (is_recovered_in_flight s h) (chunks_of h) (λ c has is. (by c has (c.number == q.chunk) refl is, refl)) in
        weaker h started less (λ c has recovered. (has, refl)) fits
      where
        by : (c : ChunkInfo) → Contains (chunks_of h) c → (b : Bool) → (c.number == q.chunk) ≡ b → is_recovered_in_flight s started c ≡ true → is_recovered_in_flight s h c ≡ true
        by c has true same is = own c has same is
        by c has false apart is = other_as_before c apart is

    module _ (d : ChunkInfo) (among : Contains (chunks_of h) d) (number : d.number ≡ q.chunk) where
      is_its : (c : ChunkInfo) → Contains (chunks_of h) c → (c.number == q.chunk) ≡ true → d ≡ c
      is_its c has same = one_number (chunks_of h) d c rise among has (number ∙ sym (eqb-true c.number q.chunk same))

      from_input : is_none d.input ≡ false → Fits started
      from_input off =
          as_before
          (λ c has same is.
          let recovered = (recovered_parts started c is).0 in
          absurd (cc (sym off ∙ (ap (λ (x : ChunkInfo). is_none x.input) (is_its c has same) ∙ recovered))))

      up_already : flies (row_of s h d) ≡ true → Fits started
      up_already flying =
          as_before
          (λ c has same is.
          let recovered = (recovered_parts started c is).0 in
          let one = flies_for s h d flying in
          let its : is_recovered_in_flight s h d ≡ true = recovered_from h d one.0 (ap (λ (x : ChunkInfo). is_none x.input) (is_its c has same) ∙ recovered) one.1 one.2 in
          subst (λ (x : ChunkInfo). is_recovered_in_flight s h x ≡ true) (is_its c has same) its)

      one_more : backlog_in_flight s started ≤ found_up (rows_of s h) + size h d.number
      one_more =
          let more = sum_one_more (λ n. size h n) (is_recovered_in_flight s started) (is_recovered_in_flight s h) q.chunk (chunks_of h) rise (λ c has apart is. other_as_before c apart is) in
          let rows = counted_rows in
          let same : size h q.chunk ≡ size h d.number = ap (size h) (sym number) in
          omega (arith, more, rows, same)

      by_backlog : is_none d.input ≡ true → fits_backlog s.service.backlog_limit (rows_of s h) (row_of s h d) ≡ true → Fits started
      by_backlog recovered may_load =
          ⊎_elim
          (λ (own : not (is_recovered_row (row_of s h d)) ≡ true). from_input (no_recovered_row d.input (off_where_not (is_recovered_row (row_of s h d)) own)))
          (λ (rest : nat_le (found_up (rows_of s h) + size h d.number) s.service.backlog_limit || found_up (rows_of s h) == 0 ≡ true).
          ⊎_elim
          (λ (less : nat_le (found_up (rows_of s h) + size h d.number) s.service.backlog_limit ≡ true).
          let le = leb-true (found_up (rows_of s h) + size h d.number) s.service.backlog_limit less in
          let more = one_more in
          inl (omega (arith, le, more)))
          (λ (zero : (found_up (rows_of s h) == 0) ≡ true).
          let none = eqb-true (found_up (rows_of s h)) 0 zero in
          let more = one_more in
          inr (d, among, none_of d.input recovered, omega (arith, none, more)))
          (or_cases (nat_le (found_up (rows_of s h) + size h d.number) s.service.backlog_limit) _ rest))
          (or_cases (not (is_recovered_row (row_of s h d))) _ may_load)

      by_room : fits_row s (rows_of s h) (Some (row_of s h d)) ≡ true → Fits started
      by_room may_fly = by (is_none d.input) refl
        where
          by : (b : Bool) → is_none d.input ≡ b → Fits started
          by false off = from_input off
          by true recovered =
              ⊎_elim (λ (memory : not (in_file (row_of s h d)) ≡ true). from_input (recovered_file s d.input (off_where_not (in_file (row_of s h d)) memory)))
              (λ (file : flies (row_of s h d) || (nat_lt (files_up (rows_of s h)) s.service.max_up && fits_backlog s.service.backlog_limit (rows_of s h) (row_of s h d)) ≡ true).
              ⊎_elim (λ (flying : flies (row_of s h d) ≡ true). up_already flying)
              (λ (both : nat_lt (files_up (rows_of s h)) s.service.max_up && fits_backlog s.service.backlog_limit (rows_of s h) (row_of s h d) ≡ true).
              by_backlog recovered (and_parts (nat_lt (files_up (rows_of s h)) s.service.max_up) _ both).1)
              (or_cases (flies (row_of s h d)) _ file))
              (or_cases (not (in_file (row_of s h d))) _ may_fly)

    start_fits : Fits started
    start_fits =
        let found = idle_pending s h q (idle s q outcome h leaves rise calm may was) in
        by_room found.0 found.1 found.2 (subst (λ (o : Option Row). fits_row s (rows_of s h) o ≡ true) found.4 (room s q outcome h leaves rise calm may was))

  -- ---- each fact

  outcome_fits : (q : Route) (outcome : Outcome) (past : Past) → FactAllowed s (OnRoute q outcome) past → RouteTimed s q outcome (logged past) → NumbersRise (chunks_of (logged past)) → Bounded s (logged past) → Fits (logged past)
      → Fits (OnRoute q outcome ∷ logged past)
  outcome_fits q (FlushStarted events) past due timed rise was fit = start_fits q (FlushStarted events) (logged past) refl rise timed.1.1.0 due.1 was fit
  outcome_fits q (InFlight progress) past due timed rise was fit = not_more q (InFlight progress) (logged past) (goes_on s q (InFlight progress) (logged past) (on_way (logged past) q timed)) fit
  outcome_fits q (Retries word) past due timed rise was fit = not_more q (Retries word) (logged past) (ends_flight s q (Retries word) (logged past) refl) fit
  outcome_fits q Delivered past due timed rise was fit = not_more q Delivered (logged past) (ends_flight s q Delivered (logged past) refl) fit
  outcome_fits q Failed past due timed rise was fit = not_more q Failed (logged past) (ends_flight s q Failed (logged past) refl) fit
  outcome_fits q Exhausted past due timed rise was fit = not_more q Exhausted (logged past) (ends_flight s q Exhausted (logged past) refl) fit
  outcome_fits q Evicted past due timed rise was fit = not_more q Evicted (logged past) (ends_flight s q Evicted (logged past) refl) fit

  found_fits : (number : ℕ) (stream name bytes : List ℕ) (h : History) → IsLoading h → Fits (Found number stream name bytes ∷ h)
  found_fits number stream name bytes h loading =
      let now : History = Found number stream name bytes ∷ h in
      let none = sum_le (λ (c : ChunkInfo). size now c.number) (λ (c : ChunkInfo). 0) (is_recovered_in_flight s now) (λ c. false) (chunks_of now)
      (λ c has is. let parts = recovered_parts now c is in absurd (cc (sym (nothing_flies s h loading (route c.number parts.1)) ∙ parts.3))) in
      let zero = sum_nothing (chunks_of now) in
      inl (omega (arith, none, zero))
    where
      sum_nothing : (cs : List ChunkInfo) → sum_by (λ (c : ChunkInfo). 0) (filter (λ c. false) cs) ≡ 0
      sum_nothing [] = refl
      sum_nothing (c ∷ cs) = sum_nothing cs

  accepted_fits : (b : Batch) (place : Placement) (h : History) → ((n : ℕ) → is_stored_in place n ≡ true → is_closed h n ≡ false) → Fits h → Fits (Accepted b place ∷ h)
  accepted_fits b place h stored fit =
      let now : History = Accepted b place ∷ h in
      let apart = sum_append (λ (c : ChunkInfo). size now c.number) (is_recovered_in_flight s now) (chunks_of h) (created_info b place) (λ c has. and_left (is_none c.input) _ (created_open b place c has)) in
      let less = sum_le (λ (c : ChunkInfo). size now c.number) (λ (c : ChunkInfo). size h c.number) (is_recovered_in_flight s now) (is_recovered_in_flight s h) (chunks_of h)
      (λ c has is. (is, same_size c.number (recovered_shut h c has (and_parts (is_none c.input) _ is).0))) in
      weaker h now (omega (arith, apart, less)) (λ c has recovered. (chunk_still (Accepted b place) h c has, same_size c.number (recovered_shut h c has recovered))) fit
    where
      same_size : (n : ℕ) → is_closed h n ≡ true → size (Accepted b place ∷ h) n ≡ size h n
      same_size n closed = by (is_stored_in place n) refl
        where
          by : (here : Bool) → is_stored_in place n ≡ here → size (Accepted b place ∷ h) n ≡ size h n
          by true is = absurd (cc (sym closed ∙ stored n is))
          by false is = rw is refl

  fact_fits : (fact : Fact) (past : Past) → FactAllowed s fact past → Allowed s past → FactTimed s fact (logged past) → Bounded s (logged past) → Fits (logged past) → Fits (fact ∷ logged past)
  fact_fits (OnRoute q outcome) past allowed due timed was fit = outcome_fits q outcome past allowed timed (sound s past due).rising was fit
  fact_fits (Accepted b place) past allowed due timed was fit = accepted_fits b place (logged past) (stored_open s b place past allowed due) fit
  fact_fits (Found number stream name bytes) past allowed due timed was fit = found_fits number stream name bytes (logged past) allowed.1
  fact_fits fact past allowed due timed was fit = fit

  call_fits : (call : Call) (past : Past) → IsAllowed s call past → Allowed s past → Timed s (history_after_call call (logged past)) → (Timed s (logged past) → Bounded s (logged past)) → (Timed s (logged past) → Fits (logged past))
      → Fits (history_after_call call (logged past))
  call_fits (Note fact) past allowed due timed was fit = fact_fits fact past allowed due timed.0 (was timed.1) (fit timed.1)
  call_fits call past allowed due timed was fit = fit timed

  fits_at : (past : Past) → Allowed s past → Timed s (logged past) → Fits (logged past)
  fits_at [] due timed = inl (omega arith)
  fits_at (e ∷ past) due timed = call_fits e.call past due.0 due.1 timed (bounded s past due.1) (fits_at past due.1)

  pub backlog_fits : (ends : Ends) (ticks : Option ℕ) (turns : ℕ) (es : List TraceEntry) (left : Action RunResult) → Execution (life s ends ticks turns) es left
      → (backlog_in_flight s (history_after es []) ≤ s.service.backlog_limit) ⊎ IsOneChunk (history_after es []) (backlog_in_flight s (history_after es []))
  backlog_fits ends ticks turns es left way =
      subst Fits (noted_since [] es) (fits_at (past_after [] es) (due_since s ends ticks turns es left way) (timed_life s ends ticks turns es left way))
