-- What became of a chunk for each output.
use Rattle.std.proofs.Common.{◌≡◌, inl, inr, ⊎_elim, ℕ, not, Bool, true, false, List, [], ◌∷◌, map, filter, length, refl, sym, ◌∙◌, ap, subst, arith}
use Rattle.std.specs.Prelude.{◌↔◌, Contains, ◌==◌}
use Rattle.std.proofs.lemmas.Bool.{eqb-true}
use Rattle.fwd_outside.specs.Loop.{LoopEntry}
use Rattle.fwd_table.specs.Row.{Row}
use Rattle.fwd_table.specs.Route.{Route as Owed}
use Rattle.fwd_settings.specs.declared.settings_types.AllSettings.{AllSettings}
use Rattle.fwd_model.specs.Fact.{Fact, History, Route, OnRoute, Delivered, Failed, Exhausted, Evicted}
use Rattle.fwd_model.specs.Settings.{outputs_for}
use Rattle.fwd_model.specs.Chunks.{ChunkInfo, chunks_of}
use Rattle.fwd_model.specs.Routes.{route, is_resolved, owed, is_owed, table_route, row_of}
use Rattle.fwd_theorem_trace.specs.Resolution.{IsResolved}
use Rattle.fwd_theorem_trace.specs.Resolution.{IsDelivered as WasDelivered, IsFailed as WasFailed, IsExhausted as WasSpent, IsEvicted as WasLost, IsMarkedDone as WasRecorded}
use Rattle.fwd_theorem_trace.proofs.Members.{here, deeper, either, in_filter, from_filter, from_map, off_where_not}
use Rattle.fwd_theorem_delivery.specs.LinkOutcomes.{IsLogged, SendsAll, IsRejected, HasRetryCause}
use Rattle.fwd_theorem_delivery.specs.Guarantee.{IsReported, IsAccountedFor, IsDelivered, IsFailed, IsExhausted, IsEvicted, IsMarkedDone, IsPending}

noted_of : (fact : Fact) (h : History) → Contains h fact → IsLogged fact h
noted_of fact [] has = absurd (omega (arith, has.1))
noted_of fact (other ∷ h) has = ⊎_elim (λ (same : other ≡ fact). inl same) (λ (later : Contains h fact). inr (noted_of fact h later)) (either other h fact has)

in_map : {X Y : Type 0} (f : X → Y) (xs : List X) (x : X) → Contains xs x → Contains (map f xs) (f x)
in_map f [] x has = absurd (omega (arith, has.1))
in_map {X = X} f (y ∷ xs) x has =
    ⊎_elim (λ (same : y ≡ x). subst (λ (z : X). Contains (map f (y ∷ xs)) (f z)) same (here (f y) (map f xs)))
    (λ (later : Contains xs x). deeper (f y) (map f xs) (f x) (in_map f xs x later)) (either y xs x has)

some_of : (xs : List ℕ) (x : ℕ) → Contains xs x → not (length xs == 0) ≡ true
some_of xs x has = by (length xs == 0) refl
  where
    by : (b : Bool) → length xs == 0 ≡ b → not b ≡ true
    by true none = absurd (omega (arith, eqb-true (length xs) 0 none, has.1))
    by false none = refl

-- a chunk that is pending for an output is in the report
reported : (s : AllSettings) (h : History) (c : ChunkInfo) (output : ℕ) → Contains (chunks_of h) c → Contains (owed s h c) output → IsReported s h (route c.number output)
reported s h c output there is = record {
  row = row_of s h c;
  among = in_map (row_of s h) (filter (is_owed s h) (chunks_of h)) c (in_filter (is_owed s h) (chunks_of h) c there (some_of (owed s h c) output is));
  of_chunk = refl;
  has =
      in_map (λ (out : Owed). out.output.0) (map (table_route s h c.number) (owed s h c)) (table_route s h c.number output)
      (in_map (table_route s h c.number) (owed s h c) output is);
}

-- by the facts about the route, and what the calls say of these
pub kept_by : (s : AllSettings) (h : History) (es : List LoopEntry) (c : ChunkInfo) (output : ℕ)
    → ((is_resolved s h (route c.number output) ≡ true) → IsResolved s h (route c.number output))
    → (is_resolved s h (route c.number output) ≡ false → Contains (owed s h c) output)
    → (IsLogged (OnRoute (route c.number output) Delivered) h → SendsAll s h es (route c.number output))
    → (IsLogged (OnRoute (route c.number output) Failed) h → IsRejected s h es (route c.number output))
    → (IsLogged (OnRoute (route c.number output) Exhausted) h → HasRetryCause s h es (route c.number output))
    → Contains (chunks_of h) c → IsAccountedFor s h es (route c.number output)
kept_by s h es c output ended owes delivered failed spent there = by (is_resolved s h (route c.number output)) ended owes
  where
    r : Route
    r = route c.number output

    ends : IsResolved s h r → IsAccountedFor s h es r
    ends (WasDelivered has) = let noted = noted_of (OnRoute r Delivered) h has in IsDelivered noted (delivered noted)
    ends (WasFailed has) = let noted = noted_of (OnRoute r Failed) h has in IsFailed noted (failed noted)
    ends (WasSpent has) = let noted = noted_of (OnRoute r Exhausted) h has in IsExhausted noted (spent noted)
    ends (WasLost has) = IsEvicted (noted_of (OnRoute r Evicted) h has)
    ends (WasRecorded was) = IsMarkedDone was

    by : (b : Bool) → (b ≡ true → IsResolved s h r) → (b ≡ false → Contains (owed s h c) output) → IsAccountedFor s h es r
    by true ended owes = ends (ended refl)
    by false ended owes = IsPending (reported s h c output there (owes refl))

route_is : (chunk output : ℕ) (r : Route) → chunk ≡ r.chunk → output ≡ r.output → route chunk output ≡ r
route_is chunk output r chunks outputs = rw (chunks, outputs) refl

-- what is in the report isn't resolved
unresolved : (s : AllSettings) (h : History) (r : Route) → IsReported s h r → is_resolved s h r ≡ false
unresolved s h r is =
    let made = from_map (row_of s h) (filter (is_owed s h) (chunks_of h)) is.row is.among in
    let has = subst (λ (row : Row). Contains (map (λ (out : Owed). out.output.0) row.routes) r.output) (sym made.2) is.has in
    let one = from_map (λ (out : Owed). out.output.0) (map (table_route s h made.0.number) (owed s h made.0)) r.output has in
    let two = from_map (table_route s h made.0.number) (owed s h made.0) one.0 one.1 in
    let kept = from_filter (λ (output : ℕ). not (is_resolved s h (route made.0.number output))) (outputs_for s made.0.tag) two.0 two.1 in
    let output : two.0 ≡ r.output = ap (λ (y : Owed). y.output.0) two.2 ∙ one.2 in
    let number : made.0.number ≡ r.chunk = ap (λ (x : Row). x.chunk.0) made.2 ∙ is.of_chunk in
    subst (λ (q : Route). is_resolved s h q ≡ false) (route_is made.0.number two.0 r number output) (off_where_not (is_resolved s h (route made.0.number two.0)) kept.1)

-- a chunk is in the report for an output exactly as long as the route isn't resolved
pub pending_by : (s : AllSettings) (h : History) (c : ChunkInfo) (output : ℕ) → ((is_resolved s h (route c.number output) ≡ true) ↔ IsResolved s h (route c.number output))
    → (is_resolved s h (route c.number output) ≡ false → Contains (owed s h c) output) → Contains (chunks_of h) c
    → IsReported s h (route c.number output) ↔ (IsResolved s h (route c.number output) → ⊥)
pending_by s h c output resolved owes there = (λ reported is. absurd (cc (sym (resolved.1 is) ∙ unresolved s h (route c.number output) reported)), λ never. by (is_resolved s h (route c.number output)) refl never)
  where
    by : (b : Bool) → is_resolved s h (route c.number output) ≡ b → (IsResolved s h (route c.number output) → ⊥) → IsReported s h (route c.number output)
    by true is never = absurd (never (resolved.0 is))
    by false is never = reported s h c output there (owes is)
