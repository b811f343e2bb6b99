-- The timers of the reference model's rows are those of its idle routes.
use Rattle.std.proofs.Common.{◌≡◌, ℕ, Bool, true, false, cond, List, [], ◌∷◌, length, not, refl, sym, ◌∙◌, ap, subst, arith}
use Rattle.std.specs.Prelude.{◌==◌, Contains, filter, is_some}
use Rattle.std.proofs.lemmas.Bool.{ne_eqb}
use Rattle.fwd_retry.specs.declared.timer.Timer.{Timer}
use Rattle.fwd_retry.proofs.Members.{not_of_none, filter_member, member_filter}
use Rattle.fwd_table.specs.Row.{Row}
use Rattle.fwd_table.specs.Route.{Route as Owed}
use Rattle.fwd_table.specs.Routes.{timer_of, idle_timers}
use Rattle.fwd_table.specs.Rows.{timers_of_row, idle_timers_of}
use Rattle.fwd_settings.specs.declared.settings_types.AllSettings.{AllSettings}
use Rattle.fwd_model.specs.Fact.{History, Route}
use Rattle.fwd_model.specs.Settings.{outputs_for}
use Rattle.fwd_model.specs.Chunks.{ChunkInfo, chunks_of, is_closed}
use Rattle.fwd_model.specs.Routes.{route, is_resolved, flight, due, owed, is_owed, table_route, row_of, rows_of}
use Rattle.fwd_model.specs.Dispatch.{route_of}
use Rattle.fwd_model.proofs.Members.{from_map, from_flat_map, in_map, in_flat_map, off_where_not, not_where_off}
use Rattle.fwd_engine_flush.proofs.Turns.{IsSameTime, IsSameRoute}

module _ (s : AllSettings) where
  -- the timer of a route of a closed chunk, which is pending and not in flight
  pub record IsWaiting (h : History) (t : Timer) : Type 0 where
    pub chunk : ChunkInfo
    pub made : Contains (chunks_of h) chunk
    pub number : chunk.number ≡ t.chunk.0
    pub closed : is_closed h chunk.number ≡ true
    pub matches : Contains (outputs_for s chunk.tag) t.output.0
    pub pending : is_resolved s h (route_of t) ≡ false
    pub idle : is_some (flight h (route_of t)) ≡ false
    pub time : t.due ≡ due s h (route_of t)

  waits_of_row : (h : History) (t : Timer) (c : ChunkInfo) → Contains (chunks_of h) c → (b : Bool) → is_closed h c.number ≡ b
      → Contains (cond b (idle_timers (record { 0 = c.number }) (row_of s h c).routes) []) t → IsWaiting h t
  waits_of_row h t c made false is none = absurd (not_of_none t none)
  waits_of_row h t c made true is some =
      let timed = from_map (timer_of (record { 0 = c.number })) (filter (λ (x : Owed). not x.flying) (row_of s h c).routes) t some in
      let idle = filter_member (λ (x : Owed). not x.flying) (row_of s h c).routes timed.0 timed.1 in
      let of = from_map (table_route s h c.number) (owed s h c) timed.0 idle.0 in
      let left = filter_member (λ (output : ℕ). not (is_resolved s h (route c.number output))) (outputs_for s c.tag) of.0 of.1 in
      let flies : not (is_some (flight h (route c.number of.0))) ≡ true = subst (λ (x : Owed). not x.flying ≡ true) (sym of.2) idle.1 in
      subst (IsWaiting h) (ap (timer_of (record { 0 = c.number })) of.2 ∙ timed.2)
      (record { chunk = c; made = made; number = refl; closed = is; matches = left.0; pending = off_where_not _ left.1; idle = off_where_not _ flies; time = refl })

  pub waits_of : (h : History) (t : Timer) → Contains (idle_timers_of (rows_of s h)) t → IsWaiting h t
  waits_of h t has =
      let at = from_flat_map timers_of_row (rows_of s h) t has in
      let made = from_map (row_of s h) (filter (is_owed s h) (chunks_of h)) at.0 at.1 in
      let kept = filter_member (is_owed s h) (chunks_of h) made.0 made.1 in
      waits_of_row h t made.0 kept.0 (is_closed h made.0.number) refl (subst (λ (row : Row). Contains (timers_of_row row) t) (sym made.2) at.2)

  some_of : (xs : List ℕ) (x : ℕ) → Contains xs x → not (length xs == 0) ≡ true
  some_of [] x has = absurd (not_of_none x has)
  some_of (y ∷ ys) x has = not_where_off _ (ne_eqb (length (y ∷ ys)) 0 (λ zero. omega (arith, zero)))

  pub is_waiting : (h : History) (t : Timer) → IsWaiting h t → Contains (idle_timers_of (rows_of s h)) t
  is_waiting h t w =
      let n = w.chunk.number in
      let o = t.output.0 in
      let x : Owed = table_route s h n o in
      let pending : is_resolved s h (route n o) ≡ false = rw w.number w.pending in
      let idle : is_some (flight h (route n o)) ≡ false = rw w.number w.idle in
      let same : timer_of (record { 0 = n }) x ≡ t = (λ i. record {
        due = (ap (λ (m : ℕ). due s h (route m o)) w.number ∙ sym w.time) i;
        chunk = record { 0 = w.number i };
        output = record { 0 = o };
      }) in
      let left : Contains (owed s h w.chunk) o = member_filter (λ (output : ℕ). not (is_resolved s h (route n output))) (outputs_for s w.chunk.tag) o w.matches (not_where_off _ pending) in
      let among : Contains (row_of s h w.chunk).routes x = in_map (table_route s h n) (owed s h w.chunk) o left in
      let timed = in_map (timer_of (record { 0 = n })) (filter (λ (y : Owed). not y.flying) (row_of s h w.chunk).routes) x (member_filter (λ (y : Owed). not y.flying) (row_of s h w.chunk).routes x among (not_where_off _ idle)) in
      let of_row : Contains (timers_of_row (row_of s h w.chunk)) (timer_of (record { 0 = n }) x) = rw w.closed timed in
      let row = in_map (row_of s h) (filter (is_owed s h) (chunks_of h)) w.chunk (member_filter (is_owed s h) (chunks_of h) w.chunk w.made (some_of (owed s h w.chunk) o left)) in
      subst (λ (u : Timer). Contains (idle_timers_of (rows_of s h)) u) same (in_flat_map timers_of_row (rows_of s h) (row_of s h w.chunk) _ row of_row)

  -- a route that stays as it is keeps its timer
  pub still_waits : (first h : History) (t : Timer) → IsSameTime first h → IsSameRoute s first h (route_of t) → IsWaiting first t → IsWaiting h t
  still_waits first h t now same w = record {
    chunk = w.chunk;
    made = subst (λ (cs : List ChunkInfo). Contains cs w.chunk) (sym now.0) w.made;
    number = w.number;
    closed = now.2 w.chunk.number ∙ w.closed;
    matches = w.matches;
    pending = same.0 ∙ w.pending;
    idle = ap is_some same.1 ∙ w.idle;
    time = w.time ∙ sym same.2;
  }
