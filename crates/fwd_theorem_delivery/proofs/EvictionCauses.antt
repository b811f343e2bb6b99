-- An output evicts only if its limit was passed.
use Rattle.std.proofs.Common.{◌≡◌, ⊎_elim, ℕ, ◌+◌, ◌-◌, ◌<◌, ◌&&◌, not, Bool, true, false, cond, List, [], ◌∷◌, ◌++◌, map, Option, Some, None, refl, subst, arith}
use Rattle.std.specs.Prelude.{All, Contains, ◌==◌, nat_le, nat_lt, option_and_then}
use Rattle.std.specs.List.{flat_map}
use Rattle.std.proofs.lemmas.Bool.{eqb-true, leb-false, ltb-true, ltb-false}
use Rattle.fwd_base.specs.declared.ids.ChunkId.{ChunkId}
use Rattle.fwd_base.specs.declared.ids.OutputId.{OutputId}
use Rattle.fwd_table.specs.Row.{Row}
use Rattle.fwd_table.specs.Usage.{is_file, size_of}
use Rattle.fwd_limits.specs.Evictions.{fixed, other_waiting, evicted_among, evicted_for}
use Rattle.fwd_settings.specs.declared.settings_types.AllSettings.{AllSettings}
use Rattle.fwd_settings.specs.declared.settings_types.OutputSet.{OutputSet}
use Rattle.fwd_model.specs.Fact.{Fact, History, Route, OnRoute, Evicted, ChunkClosed}
use Rattle.fwd_model.specs.Settings.{output_at, total_limit_at}
use Rattle.fwd_model.specs.Chunks.{ChunkInfo, chunks_of, chunk_at}
use Rattle.fwd_model.specs.Routes.{route, home_of, owed, rows_of}
use Rattle.fwd_model.specs.Limits.{evictions_to, evictions_for, evicted_at}
use Rattle.fwd_theorem_trace.proofs.Members.{from_find, from_map, from_flat_map}
use Rattle.fwd_theorem_delivery.specs.Causes.{IsOverLimit, begins_anew, pending_bytes}

-- what is left is what was over the room
some_evicted : (room : ℕ) (rows : List Row) (row : Row) → Contains (evicted_among room rows) row → room < size_of rows
some_evicted room [] row has = absurd (omega (arith, has.1))
some_evicted room (x ∷ rows) row has = by (nat_le (size_of (x ∷ rows)) room) refl has
  where
    by : (b : Bool) → nat_le (size_of (x ∷ rows)) room ≡ b → Contains (cond b [] (x ∷ evicted_among room rows)) row → room < size_of (x ∷ rows)
    by true is none = absurd (omega (arith, none.1))
    by false is some = leb-false (size_of (x ∷ rows)) room is

over_by : (output : OutputId) (limit : ℕ) (chunk : ChunkId) (rows : List Row) (lost : ChunkId) → Contains (evicted_for output limit chunk rows) lost → limit < pending_bytes output chunk rows
over_by output limit chunk rows lost has = by (nat_lt limit (fixed output chunk rows)) refl has
  where
    by : (b : Bool) → nat_lt limit (fixed output chunk rows) ≡ b
        → Contains (cond b (chunk ∷ []) (map (λ (row : Row). row.chunk) (evicted_among (limit - fixed output chunk rows) (other_waiting output chunk rows)))) lost → limit < pending_bytes output chunk rows
    by true is has = let less = ltb-true limit (fixed output chunk rows) is in omega (arith, less)
    by false is has =
        let found = from_map (λ (row : Row). row.chunk) (evicted_among (limit - fixed output chunk rows) (other_waiting output chunk rows)) lost has in
        let less = some_evicted (limit - fixed output chunk rows) (other_waiting output chunk rows) found.0 found.1 in
        let fits = ltb-false limit (fixed output chunk rows) is in
        omega (arith, less, fits)

abbrev pub Follows : Fact → Type 0
Follows fact = begins_anew fact ≡ false

-- the last chunk that closed, and the facts since
pub record ClosedSince (closed : ℕ) (before h : History) : Type 0 where
  pub since : History
  pub is : h ≡ since ++ ChunkClosed closed ∷ before
  pub last : All Follows since

module _ (s : AllSettings) (closed : ℕ) (before : History) where
  abbrev at : History
  at = ChunkClosed closed ∷ before

  abbrev IsOver : History → Route → Type 0
  IsOver h r = IsOverLimit s h r

  -- the output whose limit it is
  record Limited (output limit : ℕ) : Type 0 where
    set : OutputSet
    at_index : output_at s output ≡ Some set
    limit_is : set.total_limit ≡ Some limit

  limited_by : (output limit : ℕ) → total_limit_at s output ≡ Some limit → Limited output limit
  limited_by output limit is = by (output_at s output) refl is
    where
      by : (set : Option OutputSet) → output_at s output ≡ set → option_and_then (λ (given : OutputSet). given.total_limit) set ≡ Some limit → Limited output limit
      by None at none = absurd (cc none)
      by (Some set) at limited = record { set = set; at_index = at; limit_is = limited }

  over_output : (output : ℕ) (limit : Option ℕ) (r : Route) (h : History) → total_limit_at s output ≡ limit → ClosedSince closed before h → Contains (evictions_to s at closed output limit) r → IsOver h r
  over_output output None r h limited so has = absurd (omega (arith, has.1))
  over_output output (Some limit) r h limited so has =
      let limits = limited_by output limit limited in
      let found = from_map (λ (lost : ChunkId). route lost.0 output) (evicted_for (record { 0 = output }) limit (record { 0 = closed }) (rows_of s at)) r has in
      subst (IsOver h) found.2 (record {
        closed = closed;
        since = so.since;
        before = before;
        is = so.is;
        last = so.last;
        output = limits.set;
        among = limits.at_index;
        limit = limit;
        limited = limits.limit_is;
        passed = over_by (record { 0 = output }) limit (record { 0 = closed }) (rows_of s at) found.0 found.1;
        oldest = found.1;
      })

  over_chunk : (c : ChunkInfo) → c.number ≡ closed → (r : Route) (h : History) → ClosedSince closed before h → Contains (evictions_for s at (Some c)) r → IsOver h r
  over_chunk c same r h so has = by (is_file (home_of s c.input)) has
    where
      by : (b : Bool) → Contains (cond b (flat_map (λ (output : ℕ). evictions_to s at c.number output (total_limit_at s output)) (owed s at c)) []) r → IsOver h r
      by true some =
          let found = from_flat_map (λ (output : ℕ). evictions_to s at c.number output (total_limit_at s output)) (owed s at c) r some in
          over_output found.0 (total_limit_at s found.0) r h refl so (subst (λ (n : ℕ). Contains (evictions_to s at n found.0 (total_limit_at s found.0)) r) same found.2)
      by false none = absurd (omega (arith, none.1))

  -- each route that is evicted at a closing was over its output's limit
  pub evicted_over : (r : Route) (h : History) → ClosedSince closed before h → Contains (evicted_at s at closed) r → IsOver h r
  evicted_over r h so has = by (chunk_at at closed) refl
    where
      by : (c : Option ChunkInfo) → chunk_at at closed ≡ c → IsOver h r
      by None is = absurd (omega (arith, (subst (λ (o : Option ChunkInfo). Contains (evictions_for s at o) r) is has).1))
      by (Some c) is =
          let found = from_find (λ (d : ChunkInfo). d.number == closed) (chunks_of at) c is in
          over_chunk c (eqb-true c.number closed found.1) r h so (subst (λ (o : Option ChunkInfo). Contains (evictions_for s at o) r) is has)
