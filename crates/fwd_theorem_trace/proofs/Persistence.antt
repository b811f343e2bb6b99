-- What stays true of a history, and which chunks are closed.
use Rattle.std.proofs.Common.{◌≡◌, ⊎_elim, ℕ, ◌&&◌, not, Bool, true, false, cond, List, [], ◌∷◌, ◌++◌, map, filter, Option, Some, None, refl, sym, ◌∙◌, subst, arith}
use Rattle.std.specs.Prelude.{Contains, ◌==◌, nat_le, nat_lt, ◌-◌}
use Rattle.std.specs.Option.{option_map_or}
use Rattle.std.specs.List.{flat_map}
use Rattle.std.proofs.lemmas.Bool.{eq-eqb, eqb-true, and_parts, cond-true}
use Rattle.std.proofs.lemmas.List.Elements.{Contains-append_left}
use Rattle.fwd_base.specs.declared.ids.ChunkId.{ChunkId}
use Rattle.fwd_base.specs.declared.ids.OutputId.{OutputId}
use Rattle.fwd_table.specs.Row.{Row}
use Rattle.fwd_table.specs.Rows.{is_row_of, row_at, waits_for}
use Rattle.fwd_table.specs.Usage.{is_file, in_file, is_waiting, size_of}
use Rattle.fwd_limits.specs.Evictions.{fixed, other_waiting, evicted_among, evicted_for}
use Rattle.fwd_flush.specs.FlushProgram.{Progress}
use Rattle.fwd_settings.specs.declared.settings_types.AllSettings.{AllSettings}
use Rattle.fwd_model.specs.Fact.{Fact, History, Route, Outcome, FlushStarted, InFlight, Retries, Delivered, Failed, Exhausted, Evicted, Found, Accepted, ChunkClosed, OnRoute}
use Rattle.fwd_model.specs.Trace.{Call, TraceEntry, Note, history_after_call}
use Rattle.fwd_model.specs.Settings.{total_limit_at}
use Rattle.fwd_model.specs.Chunks.{ChunkInfo, chunks_of, chunk_at, open_chunks, is_closed, recovered_info, created_info}
use Rattle.fwd_model.specs.RecoveredFile.{recovered_chunk}
use Rattle.fwd_model.specs.Routes.{route, same_route, home_of, owed, is_owed, row_of, rows_of, is_idle, flight, progress_of}
use Rattle.fwd_model.specs.Limits.{evictions_to, evictions_for, evicted_at}
use Rattle.fwd_theorem_trace.specs.Past.{Past, logged}
use Rattle.fwd_theorem_trace.specs.Allowed.{IsChunk, OutcomeAllowed, FactAllowed, IsAllowed, Allowed}
use Rattle.fwd_theorem_trace.proofs.Members.{from_filter, from_find, from_map, from_flat_map, here, deeper, either}
use Rattle.fwd_theorem_trace.proofs.Traversal.{Extends}

-- ---- a closed chunk stays closed, and a chunk stays one

on_either : (b c : Bool) → c ≡ true → cond b true c ≡ true
on_either true c is = refl
on_either false c is = is

pub shut_still : (fact : Fact) (h : History) (n : ℕ) → is_closed h n ≡ true → is_closed (fact ∷ h) n ≡ true
shut_still (Found number stream name bytes) h n is = on_either (number == n) (is_closed h n) is
shut_still (ChunkClosed chunk) h n is = on_either (chunk == n) (is_closed h n) is
shut_still fact h n is = is

pub chunk_still : (fact : Fact) (h : History) (c : ChunkInfo) → Contains (chunks_of h) c → Contains (chunks_of (fact ∷ h)) c
chunk_still (Found number stream name bytes) h c is = Contains-append_left (chunks_of h) (recovered_info number (recovered_chunk bytes)) c is
chunk_still (Accepted b place) h c is = Contains-append_left (chunks_of h) (created_info b place) c is
chunk_still fact h c is = is

shut_behind : (call : Call) (h : History) (n : ℕ) → is_closed h n ≡ true → is_closed (history_after_call call h) n ≡ true
shut_behind (Note fact) h n is = shut_still fact h n is
shut_behind call h n is = is

chunk_behind : (call : Call) (h : History) (c : ChunkInfo) → Contains (chunks_of h) c → Contains (chunks_of (history_after_call call h)) c
chunk_behind (Note fact) h c is = chunk_still fact h c is
chunk_behind call h c is = is

shut_over : (own : List TraceEntry) (past : Past) (n : ℕ) → is_closed (logged past) n ≡ true → is_closed (logged (own ++ past)) n ≡ true
shut_over [] past n is = is
shut_over (e ∷ own) past n is = shut_behind e.call (logged (own ++ past)) n (shut_over own past n is)

pub shut_since : (past now : Past) (n : ℕ) → Extends past now → is_closed (logged past) n ≡ true → is_closed (logged now) n ≡ true
shut_since past now n grown is = subst (λ (q : Past). is_closed (logged q) n ≡ true) (sym grown.1) (shut_over grown.0 past n is)

chunk_over : (own : List TraceEntry) (past : Past) (c : ChunkInfo) → Contains (chunks_of (logged past)) c → Contains (chunks_of (logged (own ++ past))) c
chunk_over [] past c is = is
chunk_over (e ∷ own) past c is = chunk_behind e.call (logged (own ++ past)) c (chunk_over own past c is)

pub chunk_since : (past now : Past) (c : ChunkInfo) → Extends past now → Contains (chunks_of (logged past)) c → Contains (chunks_of (logged now)) c
chunk_since past now c grown is = subst (λ (q : Past). Contains (chunks_of (logged q)) c) (sym grown.1) (chunk_over grown.0 past c is)

pub open_is_chunk : (h : History) (c : ChunkInfo) → Contains (open_chunks h) c → IsChunk h c.number
open_is_chunk h c has = record { chunk = c; stands = (from_filter _ (chunks_of h) c has).0; is = refl }

-- ---- entries of the table are closed as their chunks are

pub row_shut : (s : AllSettings) (h : History) (row : Row) → Contains (rows_of s h) row → row.shut ≡ is_closed h row.chunk.0
row_shut s h row has = let found = from_map (row_of s h) (filter (is_owed s h) (chunks_of h)) row has in subst (λ (x : Row). x.shut ≡ is_closed h x.chunk.0) found.2 refl

pub idle_is_shut : (s : AllSettings) (h : History) (r : Route) → is_idle s h r ≡ true → is_closed h r.chunk ≡ true
idle_is_shut s h r idle = by (row_at (record { 0 = r.chunk }) (rows_of s h)) refl
  where
    by : (at : Option Row) → row_at (record { 0 = r.chunk }) (rows_of s h) ≡ at → is_closed h r.chunk ≡ true
    by None is = absurd (cc (subst (λ (o : Option Row). option_map_or (waits_for (record { 0 = r.output })) o false ≡ true) is idle))
    by (Some row) is =
        let waits = subst (λ (o : Option Row). option_map_or (waits_for (record { 0 = r.output })) o false ≡ true) is idle in
        let found = from_find (is_row_of (record { 0 = r.chunk })) (rows_of s h) row is in
        let number : row.chunk.0 ≡ r.chunk = eqb-true row.chunk.0 r.chunk found.1 in
        subst (λ (n : ℕ). is_closed h n ≡ true) number (sym (row_shut s h row found.0) ∙ (and_parts row.shut _ waits).0)

-- ---- evicted routes have closed chunks

pub among_rows : (room : ℕ) (rows : List Row) (row : Row) → Contains (evicted_among room rows) row → Contains rows row
among_rows room [] row has = has
among_rows room (x ∷ rows) row has = by (nat_le (size_of (x ∷ rows)) room) has (among_rows room rows row)
  where
    by : (b : Bool) → Contains (cond b [] (x ∷ evicted_among room rows)) row → (Contains (evicted_among room rows) row → Contains rows row) → Contains (x ∷ rows) row
    by true none more = absurd (omega (arith, none.1))
    by false some more = ⊎_elim (λ (same : x ≡ row). subst (λ (y : Row). Contains (x ∷ rows) y) same (here x rows)) (λ (later : Contains (evicted_among room rows) row). deeper x rows row (more later)) (either x (evicted_among room rows) row some)

module _ (s : AllSettings) (h : History) (chunk : ℕ) (closed : is_closed h chunk ≡ true) where
  abbrev IsClosed : ChunkId → Type 0
  IsClosed lost = is_closed h lost.0 ≡ true

  lost_one : (output : OutputId) (room : ℕ) (lost : ChunkId)
      → Contains (map (λ (row : Row). row.chunk) (evicted_among room (other_waiting output (record { 0 = chunk }) (rows_of s h)))) lost → IsClosed lost
  lost_one output room lost has =
      let others : List Row = other_waiting output (record { 0 = chunk }) (rows_of s h) in
      let found = from_map (λ (row : Row). row.chunk) (evicted_among room others) lost has in
      let kept = from_filter (λ (row : Row). in_file row && (is_waiting output row && not (is_row_of (record { 0 = chunk }) row))) (rows_of s h) found.0 (among_rows room others found.0 found.1) in
      let waits = (and_parts (is_waiting output found.0) _ (and_parts (in_file found.0) _ kept.1).1).0 in
      subst IsClosed found.2 (sym (row_shut s h found.0 kept.0) ∙ (and_parts found.0.shut _ waits).0)

  lost_to_closed : (output : OutputId) (limit : ℕ) (lost : ChunkId) → Contains (evicted_for output limit (record { 0 = chunk }) (rows_of s h)) lost → IsClosed lost
  lost_to_closed output limit lost has = by (nat_lt limit (fixed output (record { 0 = chunk }) (rows_of s h))) has
    where
      by : (b : Bool)
          → Contains (cond b (record { 0 = chunk } ∷ []) (map (λ (row : Row). row.chunk) (evicted_among (limit - fixed output (record { 0 = chunk }) (rows_of s h)) (other_waiting output (record { 0 = chunk }) (rows_of s h))))) lost
          → IsClosed lost
      by true one = ⊎_elim (λ (same : record { 0 = chunk } ≡ lost). subst IsClosed same closed) (λ (none : Contains [] lost). absurd (omega (arith, none.1))) (either (record { 0 = chunk }) [] lost one)
      by false more = lost_one output (limit - fixed output (record { 0 = chunk }) (rows_of s h)) lost more

  losses_closed : (output : ℕ) (limit : Option ℕ) (r : Route) → Contains (evictions_to s h chunk output limit) r → is_closed h r.chunk ≡ true
  losses_closed output None r has = absurd (omega (arith, has.1))
  losses_closed output (Some limit) r has =
      let found = from_map (λ (lost : ChunkId). route lost.0 output) (evicted_for (record { 0 = output }) limit (record { 0 = chunk }) (rows_of s h)) r has in
      subst (λ (x : Route). is_closed h x.chunk ≡ true) found.2 (lost_to_closed (record { 0 = output }) limit found.0 found.1)

  losses_for_closed : (c : ChunkInfo) → c.number ≡ chunk → (r : Route) → Contains (evictions_for s h (Some c)) r → is_closed h r.chunk ≡ true
  losses_for_closed c same r has = by (is_file (home_of s c.input)) has
    where
      by : (b : Bool) → Contains (cond b (flat_map (λ (output : ℕ). evictions_to s h c.number output (total_limit_at s output)) (owed s h c)) []) r → is_closed h r.chunk ≡ true
      by true some =
          let found = from_flat_map (λ (output : ℕ). evictions_to s h c.number output (total_limit_at s output)) (owed s h c) r some in
          losses_closed found.0 (total_limit_at s found.0) r (subst (λ (n : ℕ). Contains (evictions_to s h n found.0 (total_limit_at s found.0)) r) same found.2)
      by false none = absurd (omega (arith, none.1))

  pub lost_is_shut : (r : Route) → Contains (evicted_at s h chunk) r → is_closed h r.chunk ≡ true
  lost_is_shut r has = by (chunk_at h chunk) refl
    where
      by : (at : Option ChunkInfo) → chunk_at h chunk ≡ at → is_closed h r.chunk ≡ true
      by None is = absurd (omega (arith, (subst (λ (o : Option ChunkInfo). Contains (evictions_for s h o) r) is has).1))
      by (Some c) is =
          let found = from_find (λ (d : ChunkInfo). d.number == chunk) (chunks_of h) c is in
          losses_for_closed c (eqb-true c.number chunk found.1) r (subst (λ (o : Option ChunkInfo). Contains (evictions_for s h o) r) is has)

pub shut_now : (n : ℕ) (h : History) → is_closed (ChunkClosed n ∷ h) n ≡ true
shut_now n h = cond-true (n == n) true (is_closed h n) (eq-eqb n n refl)

-- ---- flushes have closed chunks

flies_shut : (s : AllSettings) (r : Route) (outcome : Outcome) (h : History) (p : Progress) → OutcomeAllowed s r outcome h → progress_of outcome ≡ Some p → is_closed h r.chunk ≡ true
flies_shut s r (FlushStarted events) h p due is = absurd (cc is)
flies_shut s r (InFlight progress) h p due is = due
flies_shut s r (Retries word) h p due is = absurd (cc is)
flies_shut s r Delivered h p due is = absurd (cc is)
flies_shut s r Failed h p due is = absurd (cc is)
flies_shut s r Exhausted h p due is = absurd (cc is)
flies_shut s r Evicted h p due is = absurd (cc is)

pub same_chunk : (a b : Route) → same_route a b ≡ true → a.chunk ≡ b.chunk
same_chunk a b is = eqb-true a.chunk b.chunk (and_parts (a.chunk == b.chunk) (a.output == b.output) is).0

flight_shut_fact : (s : AllSettings) (fact : Fact) (past : Past) (r : Route) (p : Progress) → FactAllowed s fact past
    → (flight (logged past) r ≡ Some p → is_closed (logged past) r.chunk ≡ true) → flight (fact ∷ logged past) r ≡ Some p → is_closed (fact ∷ logged past) r.chunk ≡ true
flight_shut_fact s (OnRoute other outcome) past r p due more is = by (same_route other r) refl is
  where
    by : (b : Bool) → same_route other r ≡ b → cond b (progress_of outcome) (flight (logged past) r) ≡ Some p → is_closed (logged past) r.chunk ≡ true
    by true same now = subst (λ (n : ℕ). is_closed (logged past) n ≡ true) (same_chunk other r same) (flies_shut s other outcome (logged past) p due now)
    by false same before = more before
flight_shut_fact s fact past r p due more is = shut_still fact (logged past) r.chunk (more is)

flight_shut_call : (s : AllSettings) (call : Call) (past : Past) (r : Route) (p : Progress) → IsAllowed s call past
    → (flight (logged past) r ≡ Some p → is_closed (logged past) r.chunk ≡ true) → flight (history_after_call call (logged past)) r ≡ Some p → is_closed (history_after_call call (logged past)) r.chunk ≡ true
flight_shut_call s (Note fact) past r p due more is = flight_shut_fact s fact past r p due more is
flight_shut_call s call past r p due more is = more is

pub flight_shut : (s : AllSettings) (past : Past) (r : Route) (p : Progress) → Allowed s past → flight (logged past) r ≡ Some p → is_closed (logged past) r.chunk ≡ true
flight_shut s [] r p due is = absurd (cc is)
flight_shut s (e ∷ past) r p due is = flight_shut_call s e.call past r p due.0 (flight_shut s past r p due.1) is
