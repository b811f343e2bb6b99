-- Flushes in flight, and the rows of the table.
use Rattle.std.proofs.Common.{◌≡◌, ◌⊎◌, inl, inr, ⊎_elim, ℕ, ◌||◌, not, Bool, true, false, cond, List, [], ◌∷◌, length, filter, map, Option, Some, None, refl, sym, ◌∙◌, ap, subst, arith}
use Rattle.std.specs.Prelude.{Contains, ◌==◌, find, is_some}
use Rattle.std.specs.List.{list_any}
use Rattle.std.specs.Option.{option_map_or}
use Rattle.std.proofs.lemmas.Bool.{eqb-true, eq-eqb, and_parts, or_right}
use Rattle.fwd_table.specs.Row.{Row}
use Rattle.fwd_table.specs.Route.{Route as Owed}
use Rattle.fwd_table.specs.Rows.{is_row_of, row_at, waits_for, flies_to}
use Rattle.fwd_table.specs.Routes.{is_to, flying_of}
use Rattle.fwd_table.specs.Usage.{flies}
use Rattle.fwd_settings.specs.declared.settings_types.AllSettings.{AllSettings}
use Rattle.fwd_model.specs.Fact.{History, Route, Outcome, FlushStarted, InFlight, OnRoute}
use Rattle.fwd_model.specs.Settings.{outputs_for}
use Rattle.fwd_model.specs.Chunks.{ChunkInfo, chunks_of, is_closed}
use Rattle.fwd_model.specs.Routes.{same_route, route, progress_of, flight, owed, is_owed, table_route, row_of, rows_of, is_idle}
use Rattle.fwd_theorem_trace.proofs.Members.{here, deeper, either, from_filter, from_find, from_map}
use Rattle.fwd_theorem_trace.proofs.RouteResolution.{owed_as_unresolved}
use Rattle.fwd_theorem_delivery.specs.RetryCounts.{is_begun}
use Rattle.fwd_theorem_delivery.proofs.TimedFacts.{is_on_the_way, on_the_way, just_begun}
use Rattle.fwd_theorem_limits.specs.FlushLimits.{leaves_in_flight, is_in_flight}
use Rattle.fwd_theorem_limits.proofs.Counts.{some_members}

-- ---- what is in flight

way_leaves : (outcome : Outcome) → is_on_the_way outcome ≡ true → leaves_in_flight outcome ≡ true
way_leaves (FlushStarted events) is = refl
way_leaves (InFlight progress) is = refl
way_leaves outcome is = absurd (cc is)

pub on_way : (h : History) (r : Route) → on_the_way h r ≡ true → is_in_flight h r ≡ true
on_way [] r is = absurd (cc is)
on_way (OnRoute other outcome ∷ h) r is = by (same_route other r) is (on_way h r)
  where
    by : (b : Bool) → cond b (is_on_the_way outcome) (on_the_way h r) ≡ true → (on_the_way h r ≡ true → is_in_flight h r ≡ true) → cond b (leaves_in_flight outcome) (is_in_flight h r) ≡ true
    by true now more = way_leaves outcome now
    by false before more = more before
on_way (fact ∷ h) r is = on_way h r is

-- a flush in flight that didn't begin just now has progress
pub has_progress : (h : History) (r : Route) → is_in_flight h r ≡ true → just_begun h r ≡ false → is_some (flight h r) ≡ true
has_progress [] r is calm = absurd (cc is)
has_progress (OnRoute other outcome ∷ h) r is calm = by (same_route other r) is calm (has_progress h r)
  where
    now : (o : Outcome) → leaves_in_flight o ≡ true → is_begun o ≡ false → is_some (progress_of o) ≡ true
    now (FlushStarted events) is begun = absurd (cc begun)
    now (InFlight progress) is begun = refl
    now o is begun = absurd (cc is)

    by : (b : Bool) → cond b (leaves_in_flight outcome) (is_in_flight h r) ≡ true → cond b (is_begun outcome) (just_begun h r) ≡ false → (is_in_flight h r ≡ true → just_begun h r ≡ false → is_some (flight h r) ≡ true)
        → is_some (cond b (progress_of outcome) (flight h r)) ≡ true
    by true is begun more = now outcome is begun
    by false is begun more = more is begun
has_progress (fact ∷ h) r is calm = has_progress h r is calm

pub progress_flies : (h : History) (r : Route) → is_some (flight h r) ≡ true → is_in_flight h r ≡ true
progress_flies [] r is = absurd (cc is)
progress_flies (OnRoute other outcome ∷ h) r is = by (same_route other r) is (progress_flies h r)
  where
    now : (o : Outcome) → is_some (progress_of o) ≡ true → leaves_in_flight o ≡ true
    now (FlushStarted events) is = refl
    now (InFlight progress) is = refl
    now o is = absurd (cc is)

    by : (b : Bool) → is_some (cond b (progress_of outcome) (flight h r)) ≡ true → (is_some (flight h r) ≡ true → is_in_flight h r ≡ true) → cond b (leaves_in_flight outcome) (is_in_flight h r) ≡ true
    by true is more = now outcome is
    by false is more = more is
progress_flies (fact ∷ h) r is = progress_flies h r is

-- ---- lists of outputs

pub any_of : (f : ℕ → Bool) (outputs : List ℕ) (output : ℕ) → Contains outputs output → f output ≡ true → list_any f outputs ≡ true
any_of f [] output has is = absurd (omega (arith, has.1))
any_of f (o ∷ os) output has is = by (either o os output has) (any_of f os output)
  where
    by : (o ≡ output) ⊎ Contains os output → (Contains os output → f output ≡ true → list_any f os ≡ true) → f o || list_any f os ≡ true
    by (inl same) more = rw (ap f same ∙ is) refl
    by (inr later) more = or_right (f o) (list_any f os) (more later is)

pub one_of : (f : ℕ → Bool) (outputs : List ℕ) → list_any f outputs ≡ true → (output : ℕ) × Contains outputs output × (f output ≡ true)
one_of f [] is = absurd (cc is)
one_of f (o ∷ os) is = by (f o) refl is (one_of f os)
  where
    by : (b : Bool) → f o ≡ b → b || list_any f os ≡ true → (list_any f os ≡ true → (output : ℕ) × Contains os output × (f output ≡ true)) → (output : ℕ) × Contains (o ∷ os) output × (f output ≡ true)
    by true on_it is more = (o, here o os, on_it)
    by false off_it is more = let found = more is in (found.0, deeper o os found.0 found.1, found.2)

-- ---- rows

module _ (s : AllSettings) (h : History) where
  -- a chunk of the route is pending for its output
  abbrev pub IsPending : Route → Type 0
  IsPending r = (c : ChunkInfo) × Contains (chunks_of h) c × (c.number ≡ r.chunk) × Contains (owed s h c) r.output

  pub owed_is_owed : (c : ChunkInfo) (output : ℕ) → Contains (owed s h c) output → is_owed s h c ≡ true
  owed_is_owed c output has = some_members (owed s h c) output has

  found_to : (n output : ℕ) (outputs : List ℕ) → Contains outputs output → (x : Owed) × (find (is_to (record { 0 = output })) (map (table_route s h n) outputs) ≡ Some x) × (x.flying ≡ is_some (flight h (route n output)))
  found_to n output [] has = absurd (omega (arith, has.1))
  found_to n output (o ∷ os) has = by (o == output) refl (found_to n output os)
    where
      by : (b : Bool) → (o == output) ≡ b
          → (Contains os output → (x : Owed) × (find (is_to (record { 0 = output })) (map (table_route s h n) os) ≡ Some x) × (x.flying ≡ is_some (flight h (route n output))))
          → (x : Owed) × (cond b (Some (table_route s h n o)) (find (is_to (record { 0 = output })) (map (table_route s h n) os)) ≡ Some x) × (x.flying ≡ is_some (flight h (route n output)))
      by true is more = (table_route s h n o, refl, ap (λ (m : ℕ). is_some (flight h (route n m))) (eqb-true o output is))
      by false is more = ⊎_elim (λ (same : o ≡ output). absurd (cc (sym is ∙ eq-eqb o output same))) (λ (later : Contains os output). more later) (either o os output has)

  -- its row says so
  pub row_flies_to : (c : ChunkInfo) (output : ℕ) → Contains (owed s h c) output → is_some (flight h (route c.number output)) ≡ true → flies_to (record { 0 = output }) (row_of s h c) ≡ true
  row_flies_to c output has is = let found = found_to c.number output (owed s h c) has in ap (λ (o : Option Owed). option_map_or (λ (x : Owed). x.flying) o false) found.1 ∙ (found.2 ∙ is)

  flying_member : (n output : ℕ) (outputs : List ℕ) → Contains outputs output → is_some (flight h (route n output)) ≡ true → Contains (flying_of (map (table_route s h n) outputs)) (table_route s h n output)
  flying_member n output [] has is = absurd (omega (arith, has.1))
  flying_member n output (o ∷ os) has is = by (either o os output has) (flying_member n output os)
    where
      first : (b : Bool) → is_some (flight h (route n o)) ≡ b → (o ≡ output) → Contains (cond b (table_route s h n o ∷ flying_of (map (table_route s h n) os)) (flying_of (map (table_route s h n) os))) (table_route s h n output)
      first true on_it same = subst (λ (m : ℕ). Contains (table_route s h n o ∷ flying_of (map (table_route s h n) os)) (table_route s h n m)) same (here (table_route s h n o) (flying_of (map (table_route s h n) os)))
      first false off_it same = absurd (cc (sym off_it ∙ (ap (λ (m : ℕ). is_some (flight h (route n m))) same ∙ is)))

      later : (b : Bool) → Contains (flying_of (map (table_route s h n) os)) (table_route s h n output) → Contains (cond b (table_route s h n o ∷ flying_of (map (table_route s h n) os)) (flying_of (map (table_route s h n) os))) (table_route s h n output)
      later true more = deeper (table_route s h n o) (flying_of (map (table_route s h n) os)) (table_route s h n output) more
      later false more = more

      by : (o ≡ output) ⊎ Contains os output → (Contains os output → is_some (flight h (route n output)) ≡ true → Contains (flying_of (map (table_route s h n) os)) (table_route s h n output))
          → Contains (flying_of (map (table_route s h n) (o ∷ os))) (table_route s h n output)
      by (inl same) more = first (is_some (flight h (route n o))) refl same
      by (inr there) more = later (is_some (flight h (route n o))) (more there is)

  pub row_flies : (c : ChunkInfo) (output : ℕ) → Contains (owed s h c) output → is_some (flight h (route c.number output)) ≡ true → flies (row_of s h c) ≡ true
  row_flies c output has is =
      some_members (flying_of (map (table_route s h c.number) (owed s h c))) (table_route s h c.number output) (flying_member c.number output (owed s h c) has is)

  -- a row that flies has an output to which its chunk is in flight
  pub flies_for : (c : ChunkInfo) → flies (row_of s h c) ≡ true → (output : ℕ) × Contains (outputs_for s c.tag) output × (is_in_flight h (route c.number output) ≡ true)
  flies_for c is = by (flying_of (map (table_route s h c.number) (owed s h c))) refl is
    where
      by : (routes : List Owed) → flying_of (map (table_route s h c.number) (owed s h c)) ≡ routes → not (length routes == 0) ≡ true → (output : ℕ) × Contains (outputs_for s c.tag) output × (is_in_flight h (route c.number output) ≡ true)
      by [] at none = absurd (cc none)
      by (x ∷ xs) at some =
          let kept = from_filter (λ (r : Owed). r.flying) (map (table_route s h c.number) (owed s h c)) x (subst (λ (l : List Owed). Contains l x) (sym at) (here x xs)) in
          let made = from_map (table_route s h c.number) (owed s h c) x kept.0 in (
            made.0,
            ((owed_as_unresolved s h c made.0).0 made.1).0,
            progress_flies h (route c.number made.0) (ap (λ (r : Owed). r.flying) made.2 ∙ kept.1),
          )

  -- an idle route is pending, and its row is that of its chunk
  pub idle_pending : (r : Route) → is_idle s h r ≡ true
      → (c : ChunkInfo) × Contains (chunks_of h) c × (c.number ≡ r.chunk) × Contains (owed s h c) r.output × (row_at (record { 0 = r.chunk }) (rows_of s h) ≡ Some (row_of s h c))
  idle_pending r idle = by (row_at (record { 0 = r.chunk }) (rows_of s h)) refl idle
    where
      among : (c : ChunkInfo) (o : Option Owed) → find (is_to (record { 0 = r.output })) (map (table_route s h c.number) (owed s h c)) ≡ o → option_map_or (λ (x : Owed). not x.flying) o false ≡ true → Contains (owed s h c) r.output
      among c None is waits = absurd (cc waits)
      among c (Some x) is waits =
          let found = from_find (is_to (record { 0 = r.output })) (map (table_route s h c.number) (owed s h c)) x is in
          let made = from_map (table_route s h c.number) (owed s h c) x found.0 in
          subst (Contains (owed s h c)) (ap (λ (y : Owed). y.output.0) made.2 ∙ eqb-true x.output.0 r.output found.1) made.1

      by : (at : Option Row) → row_at (record { 0 = r.chunk }) (rows_of s h) ≡ at → option_map_or (waits_for (record { 0 = r.output })) at false ≡ true
          → (c : ChunkInfo) × Contains (chunks_of h) c × (c.number ≡ r.chunk) × Contains (owed s h c) r.output × (row_at (record { 0 = r.chunk }) (rows_of s h) ≡ Some (row_of s h c))
      by None is waits = absurd (cc waits)
      by (Some row) is waits =
          let found = from_find (is_row_of (record { 0 = r.chunk })) (rows_of s h) row is in
          let made = from_map (row_of s h) (filter (is_owed s h) (chunks_of h)) row found.0 in
          let kept = from_filter (is_owed s h) (chunks_of h) made.0 made.1 in
          let same = subst (λ (x : Row). waits_for (record { 0 = r.output }) x ≡ true) (sym made.2) waits in (
            made.0,
            kept.0,
            ap (λ (x : Row). x.chunk.0) made.2 ∙ eqb-true row.chunk.0 r.chunk found.1,
            among made.0 (find (is_to (record { 0 = r.output })) (map (table_route s h made.0.number) (owed s h made.0))) refl (and_parts (is_closed h made.0.number) _ same).1,
            is ∙ ap (λ (x : Row). Some x) (sym made.2),
          )
