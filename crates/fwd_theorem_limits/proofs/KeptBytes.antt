-- At the end of each turn, what is kept for an output fits its limit, or is no more than what was recovered.
use Rattle.std.proofs.Common.{◌≡◌, ◌⊎◌, inl, inr, ⊎_elim, ℕ, ◌≤◌, ◌&&◌, nat_lt, not, Bool, true, false, cond, List, [], ◌∷◌, ◌++◌, filter, Option, Some, None, refl, sym, ◌∙◌, ap, subst, arith}
use Rattle.std.specs.Prelude.{Contains, ◌==◌, sum_by, is_none}
use Rattle.std.specs.List.{list_any}
use Rattle.std.proofs.lemmas.Bool.{eqb-true, eq-eqb, and_parts, and_from, and_left, or_from, or_right}
use Rattle.std.proofs.lemmas.List.Elements.{Contains-append_cases}
use Rattle.fwd_outside.specs.Program.{Return, Execution}
use Rattle.fwd_outside.specs.declared.ends.Ends.{Ends}
use Rattle.fwd_chunk.specs.declared.chunk.Chunk.{Chunk}
use Rattle.fwd_table.specs.Usage.{is_file}
use Rattle.fwd_limits.specs.Evictions.{fixed}
use Rattle.fwd_settings.specs.declared.settings_types.AllSettings.{AllSettings}
use Rattle.fwd_settings.specs.declared.settings_types.OutputSet.{OutputSet}
use Rattle.fwd_model.specs.Fact.{Fact, History, Batch, Placement, NoChunk, NewChunk, AppendedTo, Route, Outcome, FlushStarted, InFlight, Retries, Delivered, Failed, Exhausted, Evicted, Accepted, Found, ChunkClosed, OnRoute}
use Rattle.fwd_model.specs.Trace.{Call, TraceEntry, Note, history_after_call}
use Rattle.fwd_model.specs.Settings.{output_at, outputs_for, total_limit_at}
use Rattle.fwd_model.specs.RecoveredFile.{recovered_chunk}
use Rattle.fwd_model.specs.Chunks.{ChunkInfo, recovered_info, created_info, chunks_of, is_closed, is_stored_in, size}
use Rattle.fwd_model.specs.Routes.{same_route, route, resolves, is_resolved, home_of, owed, rows_of}
use Rattle.fwd_model.specs.Run.{RunResult, life}
use Rattle.fwd_theorem_trace.specs.Past.{Past, logged, past_after}
use Rattle.fwd_theorem_trace.specs.Allowed.{IsLoading, FactAllowed, IsAllowed, Allowed}
use Rattle.fwd_theorem_trace.specs.Sound.{NumbersRise}
use Rattle.fwd_theorem_trace.proofs.Members.{either, off_where_not}
use Rattle.fwd_theorem_trace.proofs.RouteResolution.{same_itself, owed_as_unresolved}
use Rattle.fwd_theorem_trace.proofs.Run.{so_at_end, due_since}
use Rattle.fwd_theorem_trace.proofs.Invariant.{sound}
use Rattle.fwd_theorem_delivery.proofs.TimedFacts.{rest_of, owing, FactTimed, Timed, Calm, InTime}
use Rattle.fwd_theorem_delivery.proofs.TimedRun.{timed_lasts, timed_life}
use Rattle.fwd_theorem_limits.specs.StorageLimits.{is_kept_for, kept_bytes, is_recovered_for, recovered_bytes}
use Rattle.fwd_theorem_limits.proofs.Counts.{one_number}
use Rattle.fwd_theorem_limits.proofs.Sums.{sum_le, sum_append}
use Rattle.fwd_theorem_limits.proofs.StoredChunks.{created_open, recovered_shut, stored_open}
use Rattle.fwd_theorem_limits.proofs.ClosingRoom.{any_member, member_of_any, is_lost, Counts, fits, own_is_lost, lost_evicted, limit_is}

-- ---- recovered chunks

loading_recovered : (h : History) → IsLoading h → (c : ChunkInfo) → Contains (chunks_of h) c → is_none c.input ≡ true
loading_recovered [] loading c has = absurd (omega (arith, has.1))
loading_recovered (Found number stream name bytes ∷ h) loading c has =
    ⊎_elim (λ (old : Contains (chunks_of h) c). loading_recovered h loading.1 c old) (λ (new : Contains (recovered_info number (recovered_chunk bytes)) c). by (recovered_chunk bytes) new)
    (Contains-append_cases (chunks_of h) (recovered_info number (recovered_chunk bytes)) c has)
  where
    by : (chunk : Option Chunk) → Contains (recovered_info number chunk) c → is_none c.input ≡ true
    by None new = absurd (omega (arith, new.1))
    by (Some chunk) new =
        ⊎_elim (λ (same : record { number = number; input = None; tag = chunk.tag } ≡ c). ap (λ (d : ChunkInfo). is_none d.input) (sym same)) (λ (none : Contains [] c). absurd (omega (arith, none.1)))
        (either (record { number = number; input = None; tag = chunk.tag }) [] c new)
loading_recovered (fact ∷ h) loading c has = absurd loading

same_le : (n : ℕ) → n ≤ n
same_le n = omega arith

off_by : (b : Bool) → (b ≡ true → ⊥) → b ≡ false
off_by true none = absurd (none refl)
off_by false none = refl

module _ (s : AllSettings) (output limit : ℕ) (limited : total_limit_at s output ≡ Some limit) where
  -- whether the last closing still owes its eviction
  abbrev is_owing : History → ChunkInfo → Bool
  is_owing h c = list_any (λ (r : Route). same_route r (route c.number output)) (owing s h)

  -- what is kept, without what will be evicted
  abbrev stays : History → ChunkInfo → Bool
  stays h c = is_kept_for s h output c && not (is_owing h c)

  abbrev staying : History → ℕ
  staying h = sum_by (λ (c : ChunkInfo). size h c.number) (filter (stays h) (chunks_of h))

  abbrev Fits : History → Type 0
  Fits h = (staying h ≤ limit) ⊎ (staying h ≤ recovered_bytes s h output)

  weaker : (h now : History) → staying now ≤ staying h → recovered_bytes s h output ≤ recovered_bytes s now output → Fits h → Fits now
  weaker h now less more (inl fit) = inl (omega (arith, less, fit))
  weaker h now less more (inr fit) = inr (omega (arith, less, more, fit))

  -- the parts of what is kept
  record IsKept (h : History) (c : ChunkInfo) : Type 0 where
    file : is_file (home_of s c.input) ≡ true
    closed : is_closed h c.number ≡ true
    pending : Contains (owed s h c) output

  kept_parts : (h : History) (c : ChunkInfo) → is_kept_for s h output c ≡ true → IsKept h c
  kept_parts h c is =
      let parts = and_parts (is_file (home_of s c.input)) _ is in
      let more = and_parts (is_closed h c.number) _ parts.1 in
      let one = member_of_any (λ (other : ℕ). other == output) (owed s h c) more.1 in
      record { file = parts.0; closed = more.0; pending = subst (Contains (owed s h c)) (eqb-true one.0 output one.2) one.1 }

  kept_from : (h : History) (c : ChunkInfo) → IsKept h c → is_kept_for s h output c ≡ true
  kept_from h c is =
      and_from (is_file (home_of s c.input)) _ is.file (and_from (is_closed h c.number) _ is.closed (any_member (λ (other : ℕ). other == output) (owed s h c) output is.pending (eq-eqb output output refl)))

  -- ---- an outcome

  outcome_pending : (q : Route) (outcome : Outcome) (h : History) (c : ChunkInfo) → Contains (owed s (OnRoute q outcome ∷ h) c) output → Contains (owed s h c) output
  outcome_pending q outcome h c has =
      let now = (owed_as_unresolved s (OnRoute q outcome ∷ h) c output).0 has in
      (owed_as_unresolved s h c output).1 (now.0, off_by (is_resolved s h (route c.number output)) (λ on_it. cc (sym now.1 ∙ or_right (same_route q (route c.number output) && resolves outcome) (is_resolved s h (route c.number output)) on_it)))

  outcome_stays : (q : Route) (outcome : Outcome) (h : History) → ((c : ChunkInfo) → is_kept_for s (OnRoute q outcome ∷ h) output c ≡ true → is_owing (OnRoute q outcome ∷ h) c ≡ false → is_owing h c ≡ false)
      → Fits h → Fits (OnRoute q outcome ∷ h)
  outcome_stays q outcome h owes was =
      let now : History = OnRoute q outcome ∷ h in
      let less = sum_le (λ (c : ChunkInfo). size h c.number) (λ (c : ChunkInfo). size h c.number) (stays now) (stays h) (chunks_of h)
      (λ c has is.
      let parts = and_parts (is_kept_for s now output c) (not (is_owing now c)) is in
      let kept = kept_parts now c parts.0 in (
        and_from (is_kept_for s h output c) (not (is_owing h c)) (kept_from h c (record { file = kept.file; closed = kept.closed; pending = outcome_pending q outcome h c kept.pending }))
            (ap not (owes c parts.0 (off_where_not (is_owing now c) parts.1))),
        refl,
      )) in
      weaker h now less (same_le (recovered_bytes s h output)) was

  -- an evicted route isn't pending any more
  evicted_owes : (q : Route) (rest : List Route) (h : History) → owing s h ≡ q ∷ rest → (c : ChunkInfo) → is_kept_for s (OnRoute q Evicted ∷ h) output c ≡ true → is_owing (OnRoute q Evicted ∷ h) c ≡ false → is_owing h c ≡ false
  evicted_owes q rest h is c kept off =
      subst (λ (rs : List Route). list_any (λ (r : Route). same_route r (route c.number output)) rs ≡ false) (sym is)
      (or_from (same_route q (route c.number output)) (list_any (λ (r : Route). same_route r (route c.number output)) rest) apart
      (subst (λ (rs : List Route). list_any (λ (r : Route). same_route r (route c.number output)) (rest_of rs) ≡ false) is off))
    where
      apart : same_route q (route c.number output) ≡ false
      apart =
          off_by (same_route q (route c.number output))
          (λ same.
          let pending = (owed_as_unresolved s (OnRoute q Evicted ∷ h) c output).0 (kept_parts (OnRoute q Evicted ∷ h) c kept).pending in
          let resolved : is_resolved s (OnRoute q Evicted ∷ h) (route c.number output) ≡ true = rw same refl in
          cc (sym pending.1 ∙ resolved))

  outcome_fits : (q : Route) (outcome : Outcome) (h : History) → FactTimed s (OnRoute q outcome) h → Fits h → Fits (OnRoute q outcome ∷ h)
  outcome_fits q Evicted h timed was = outcome_stays q Evicted h (evicted_owes q timed.1.0 h timed.1.1) was
  outcome_fits q (FlushStarted events) h timed was = outcome_stays q (FlushStarted events) h (λ c kept off. off) was
  outcome_fits q (InFlight progress) h timed was = outcome_stays q (InFlight progress) h (λ c kept off. off) was
  outcome_fits q (Retries word) h timed was = outcome_stays q (Retries word) h (λ c kept off. off) was
  outcome_fits q Delivered h timed was = outcome_stays q Delivered h (λ c kept off. off) was
  outcome_fits q Failed h timed was = outcome_stays q Failed h (λ c kept off. off) was
  outcome_fits q Exhausted h timed was = outcome_stays q Exhausted h (λ c kept off. off) was

  -- ---- a closing

  module _ (h : History) (rise : NumbersRise (chunks_of h)) (c : ChunkInfo) (among : Contains (chunks_of h) c) (none : owing s h ≡ []) where
    abbrev shut : History
    shut = ChunkClosed c.number ∷ h

    not_owing : (d : ChunkInfo) → is_owing h d ≡ false
    not_owing d = ap (λ (rs : List Route). list_any (λ (r : Route). same_route r (route d.number output)) rs) none

    -- no chunk but this one is kept in addition
    stays_before : ((d : ChunkInfo) → Contains (chunks_of h) d → stays shut d ≡ true → d.number ≡ c.number → ⊥) → Fits h → Fits shut
    stays_before apart was =
        let less = sum_le (λ (d : ChunkInfo). size h d.number) (λ (d : ChunkInfo). size h d.number) (stays shut) (stays h) (chunks_of h)
        (λ d has is.
        let kept = kept_parts shut d (and_parts (is_kept_for s shut output d) (not (is_owing shut d)) is).0 in (
          and_from (is_kept_for s h output d) (not (is_owing h d))
              (kept_from h d (record { file = kept.file; closed = was_closed d (c.number == d.number) refl kept.closed (λ same. apart d has is (sym same)); pending = kept.pending })) (ap not (not_owing d)),
          refl,
        )) in
        weaker h shut less (same_le (recovered_bytes s h output)) was
      where
        was_closed : (d : ChunkInfo) (b : Bool) → (c.number == d.number) ≡ b → cond b true (is_closed h d.number) ≡ true → (c.number ≡ d.number → ⊥) → is_closed h d.number ≡ true
        was_closed d true same now other = absurd (other (eqb-true c.number d.number same))
        was_closed d false off_it now other = now

    module _ (file : is_file (home_of s c.input) ≡ true) (pending : Contains (owed s shut c) output) where
      lost_owing : (d : ChunkInfo) → is_lost s h rise c among output limit d.number ≡ true → is_owing shut d ≡ true
      lost_owing d lost =
          any_member (λ (r : Route). same_route r (route d.number output)) (owing s shut) (route d.number output) (lost_evicted s h rise c among output limit file pending limited d.number lost) (same_itself (route d.number output))

      stay_counts : Counts s h rise c among output limit (stays shut)
      stay_counts d is =
          let parts = and_parts (is_kept_for s shut output d) (not (is_owing shut d)) is in
          let kept = kept_parts shut d parts.0 in
          let off = off_where_not (is_owing shut d) parts.1 in
          (kept.file, (kept.closed, (kept.pending, off_by (is_lost s h rise c among output limit d.number) (λ lost. cc (sym off ∙ lost_owing d lost)))))

      limit_fits : Fits h → Fits shut
      limit_fits was = by (nat_lt limit (fixed (record { 0 = output }) (record { 0 = c.number }) (rows_of s shut))) refl
        where
          by : (b : Bool) → nat_lt limit (fixed (record { 0 = output }) (record { 0 = c.number }) (rows_of s shut)) ≡ b → Fits shut
          by false is = inl (fits s h rise c among output limit (stays shut) stay_counts is)
          by true is =
              stays_before
              (λ d has kept same.
              let off = off_where_not (is_owing shut d) (and_parts (is_kept_for s shut output d) (not (is_owing shut d)) kept).1 in
              let own = own_is_lost s h rise c among output limit is in
              cc (sym off ∙ lost_owing d (subst (λ (n : ℕ). is_lost s h rise c among output limit n ≡ true) (sym same) own))) was

    own_kept : (d : ChunkInfo) → Contains (chunks_of h) d → stays shut d ≡ true → d.number ≡ c.number → (is_file (home_of s c.input) ≡ true) × Contains (owed s shut c) output
    own_kept d has is same =
        let kept = kept_parts shut d (and_parts (is_kept_for s shut output d) (not (is_owing shut d)) is).0 in
        let one = one_number (chunks_of h) d c rise has among same in
        subst (λ (x : ChunkInfo). (is_file (home_of s x.input) ≡ true) × Contains (owed s shut x) output) one (kept.file, kept.pending)

    closing_fits : Fits h → Fits shut
    closing_fits was = by (is_kept_for s shut output c) refl
      where
        by : (b : Bool) → is_kept_for s shut output c ≡ b → Fits shut
        by true is = let kept = kept_parts shut c is in limit_fits kept.file kept.pending was
        by false off_it =
            stays_before
            (λ d has is same.
            let own = own_kept d has is same in
            let closed : is_closed shut c.number ≡ true = rw (eq-eqb c.number c.number refl) refl in
            cc (sym off_it ∙ kept_from shut c (record { file = own.0; closed = closed; pending = own.1 }))) was

  -- ---- recovered files and accepted batches

  found_fits : (number : ℕ) (stream name bytes : List ℕ) (h : History) → IsLoading (Found number stream name bytes ∷ h) → Fits (Found number stream name bytes ∷ h)
  found_fits number stream name bytes h loading =
      let now : History = Found number stream name bytes ∷ h in
      inr (sum_le (λ (c : ChunkInfo). size now c.number) (λ (c : ChunkInfo). size now c.number) (stays now) (is_recovered_for s output) (chunks_of now)
      (λ c has is.
      let kept = kept_parts now c (and_parts (is_kept_for s now output c) (not (is_owing now c)) is).0 in
      let matches = ((owed_as_unresolved s now c output).0 kept.pending).0 in (
        and_from (is_none c.input) _ (loading_recovered now loading c has) (any_member (λ (other : ℕ). other == output) (outputs_for s c.tag) output matches (eq-eqb output output refl)),
        refl,
      )))

  -- a batch changes no closed chunk
  module _ (b : Batch) (place : Placement) (h : History) (rise : NumbersRise (chunks_of h ++ created_info b place)) (own_open : (n : ℕ) → is_stored_in place n ≡ true → is_closed h n ≡ false)
      (new_open : (n : ℕ) → place ≡ NewChunk n → is_closed h n ≡ false) (recovered_closed : (c : ChunkInfo) → Contains (chunks_of h) c → is_none c.input ≡ true → is_closed h c.number ≡ true) where
    abbrev now : History
    now = Accepted b place ∷ h

    same_size : (n : ℕ) → is_closed h n ≡ true → size now n ≡ size h n
    same_size n closed = by (is_stored_in place n) refl
      where
        by : (stored : Bool) → is_stored_in place n ≡ stored → size now n ≡ size h n
        by true is = absurd (cc (sym closed ∙ own_open n is))
        by false is = rw is refl

    created_not_kept : (c : ChunkInfo) → Contains (created_info b place) c → stays now c ≡ false
    created_not_kept c has =
        off_by (stays now c) (λ is. let kept = kept_parts now c (and_parts (is_kept_for s now output c) (not (is_owing now c)) is).0 in cc (sym kept.closed ∙ open_of place has new_open))
      where
        open_of : (at : Placement) → Contains (created_info b at) c → ((n : ℕ) → at ≡ NewChunk n → is_closed h n ≡ false) → is_closed h c.number ≡ false
        open_of NoChunk has opens = absurd (omega (arith, has.1))
        open_of (AppendedTo chunk) has opens = absurd (omega (arith, has.1))
        open_of (NewChunk chunk) has opens =
            ⊎_elim (λ (same : record { number = chunk; input = Some b.input; tag = b.tag } ≡ c). subst (λ (d : ChunkInfo). is_closed h d.number ≡ false) same (opens chunk refl)) (λ (none : Contains [] c). absurd (omega (arith, none.1)))
            (either (record { number = chunk; input = Some b.input; tag = b.tag }) [] c has)

    accepted_fits : Fits h → Fits now
    accepted_fits was =
        let apart = sum_append (λ (c : ChunkInfo). size now c.number) (stays now) (chunks_of h) (created_info b place) created_not_kept in
        let less = sum_le (λ (c : ChunkInfo). size now c.number) (λ (c : ChunkInfo). size h c.number) (stays now) (stays h) (chunks_of h)
        (λ c has is. (is, same_size c.number (kept_parts now c (and_parts (is_kept_for s now output c) (not (is_owing now c)) is).0).closed)) in
        let aside = sum_append (λ (c : ChunkInfo). size now c.number) (is_recovered_for s output) (chunks_of h) (created_info b place)
        (λ c has. and_left (is_none c.input) _ (created_open b place c has)) in
        let more = sum_le (λ (c : ChunkInfo). size h c.number) (λ (c : ChunkInfo). size now c.number) (is_recovered_for s output) (is_recovered_for s output) (chunks_of h)
        (λ c has is. (is, sym (same_size c.number (recovered_closed c has (and_parts (is_none c.input) _ is).0)))) in
        weaker h now (omega (arith, apart, less)) (omega (arith, aside, more)) was

  -- ---- at each point

  new_open : (b : Batch) (place : Placement) (past : Past) → FactAllowed s (Accepted b place) past → Allowed s past → (n : ℕ) → place ≡ NewChunk n → is_closed (logged past) n ≡ false
  new_open b place past allowed due n is = stored_open s b place past allowed due n (ap (λ (at : Placement). is_stored_in at n) is ∙ eq-eqb n n refl)

  fact_fits : (fact : Fact) (past : Past) → FactAllowed s fact past → Allowed s past → FactTimed s fact (logged past) → NumbersRise (chunks_of (fact ∷ logged past)) → Fits (logged past) → Fits (fact ∷ logged past)
  fact_fits (OnRoute q outcome) past allowed due timed rise was = outcome_fits q outcome (logged past) timed was
  fact_fits (ChunkClosed n) past allowed due timed rise was =
      subst (λ (m : ℕ). Fits (ChunkClosed m ∷ logged past)) allowed.is (closing_fits (logged past) (sound s past due).rising allowed.chunk allowed.stands timed.1 was)
  fact_fits (Found number stream name bytes) past allowed due timed rise was = found_fits number stream name bytes (logged past) allowed
  fact_fits (Accepted b place) past allowed due timed rise was =
      accepted_fits b place (logged past) rise (stored_open s b place past allowed due) (new_open b place past allowed due) (recovered_shut (logged past)) was
  fact_fits fact past allowed due timed rise was = was

  call_fits : (call : Call) (past : Past) → IsAllowed s call past → Allowed s past → Timed s (history_after_call call (logged past)) → NumbersRise (chunks_of (history_after_call call (logged past)))
      → (Timed s (logged past) → Fits (logged past)) → Fits (history_after_call call (logged past))
  call_fits (Note fact) past allowed due timed rise was = fact_fits fact past allowed due timed.0 rise (was timed.1)
  call_fits call past allowed due timed rise was = was timed

  fits_at : (past : Past) → Allowed s past → Timed s (logged past) → Fits (logged past)
  fits_at [] due timed = inl (omega arith)
  fits_at (e ∷ past) due timed = call_fits e.call past due.0 due.1 timed (sound s (e ∷ past) due).rising (fits_at past due.1)

  -- if no eviction is due, all that is kept stays
  kept_fits : (h : History) → owing s h ≡ [] → Fits h → (kept_bytes s h output ≤ limit) ⊎ (kept_bytes s h output ≤ recovered_bytes s h output)
  kept_fits h none was =
      let all = sum_le (λ (c : ChunkInfo). size h c.number) (λ (c : ChunkInfo). size h c.number) (is_kept_for s h output) (stays h) (chunks_of h)
      (λ c has is. (
        and_from (is_kept_for s h output c) (not (is_owing h c)) is (ap (λ (rs : List Route). not (list_any (λ (r : Route). same_route r (route c.number output)) rs)) none),
        refl,
      )) in
      ⊎_elim (λ (fit : staying h ≤ limit). inl (omega (arith, all, fit))) (λ (fit : staying h ≤ recovered_bytes s h output). inr (omega (arith, all, fit))) was

pub kept_at_end : (s : AllSettings) (ends : Ends) (ticks : Option ℕ) (turns : ℕ) (es : List TraceEntry) (end : RunResult) (output : ℕ) (set : OutputSet) (limit : ℕ) → Execution (life s ends ticks turns) es (Return end)
    → output_at s output ≡ Some set → set.total_limit ≡ Some limit → (kept_bytes s end.history output ≤ limit) ⊎ (kept_bytes s end.history output ≤ recovered_bytes s end.history output)
kept_at_end s ends ticks turns es end output set limit way at limited =
    let past : Past = past_after [] es in
    let last = so_at_end s (InTime s) (λ (now : Past). Calm s (logged now)) (timed_lasts s) ends ticks turns es end way in
    let due = due_since s ends ticks turns es (Return end) way in
    let fit = fits_at s output limit (limit_is s output limit set at limited) past due (timed_life s ends ticks turns es (Return end) way) in
    subst (λ (h : History). (kept_bytes s h output ≤ limit) ⊎ (kept_bytes s h output ≤ recovered_bytes s h output)) (sym last.0)
    (kept_fits s output limit (limit_is s output limit set at limited) (logged past) last.1.1 fit)
