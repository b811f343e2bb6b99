-- What resolves a route, and which outputs a chunk is pending for.
use Rattle.std.proofs.Common.{◌≡◌, ◌⊎◌, ◌↔◌, inl, inr, ℕ, ◌&&◌, ◌||◌, Bool, true, false, [], ◌∷◌, refl, sym, subst, arith}
use Rattle.std.specs.Prelude.{Contains, ◌==◌}
use Rattle.std.proofs.lemmas.Bool.{eq-eqb, eqb-true, and_parts}
use Rattle.fwd_settings.specs.declared.settings_types.AllSettings.{AllSettings}
use Rattle.fwd_model.specs.Fact.{Fact, History, Route, Found, OnRoute, Outcome, FlushStarted, InFlight, Retries, Delivered, Failed, Exhausted, Evicted}
use Rattle.fwd_model.specs.Settings.{outputs_for, output_name}
use Rattle.fwd_model.specs.RecoveredFile.{recovered_chunk, is_marked_done}
use Rattle.fwd_model.specs.Chunks.{ChunkInfo}
use Rattle.fwd_model.specs.Routes.{same_route, route, resolves, is_resolved, owed}
use Rattle.fwd_theorem_trace.specs.Resolution.{IsResolved, IsDelivered, IsFailed, IsExhausted, IsEvicted, IsMarkedDone}
use Rattle.fwd_theorem_trace.proofs.Members.{here, deeper, either, from_filter, in_filter, off_where_not, not_where_off}

pub same_routes : (a b : Route) → same_route a b ≡ true → a ≡ b
same_routes a b is =
    let parts = and_parts (a.chunk == b.chunk) (a.output == b.output) is in
    rw (eqb-true a.chunk b.chunk parts.0, eqb-true a.output b.output parts.1) refl

either_is : (a b : Bool) → a || b ≡ true → (a ≡ true) ⊎ (b ≡ true)
either_is true b is = inl refl
either_is false b is = inr is

or_left : (a b : Bool) → a ≡ true → a || b ≡ true
or_left true b is = refl
or_left false b is = absurd (cc is)

or_right : (a b : Bool) → b ≡ true → a || b ≡ true
or_right true b is = refl
or_right false b is = is

still : (s : AllSettings) (fact : Fact) (h : History) (r : Route) → IsResolved s h r → IsResolved s (fact ∷ h) r
still s fact h r (IsDelivered is) = IsDelivered (deeper fact h (OnRoute r Delivered) is)
still s fact h r (IsFailed is) = IsFailed (deeper fact h (OnRoute r Failed) is)
still s fact h r (IsExhausted is) = IsExhausted (deeper fact h (OnRoute r Exhausted) is)
still s fact h r (IsEvicted is) = IsEvicted (deeper fact h (OnRoute r Evicted) is)
still s fact h r (IsMarkedDone is) =
    IsMarkedDone (record { stream = is.stream; name = is.name; bytes = is.bytes; found = deeper fact h (Found r.chunk is.stream is.name is.bytes) is.found; done = is.done })

ended_by : (s : AllSettings) (r : Route) (outcome : Outcome) (h : History) → resolves outcome ≡ true → IsResolved s (OnRoute r outcome ∷ h) r
ended_by s r (FlushStarted events) h is = absurd (cc is)
ended_by s r (InFlight progress) h is = absurd (cc is)
ended_by s r (Retries word) h is = absurd (cc is)
ended_by s r Delivered h is = IsDelivered (here (OnRoute r Delivered) h)
ended_by s r Failed h is = IsFailed (here (OnRoute r Failed) h)
ended_by s r Exhausted h is = IsExhausted (here (OnRoute r Exhausted) h)
ended_by s r Evicted h is = IsEvicted (here (OnRoute r Evicted) h)

ended_fact : (s : AllSettings) (fact : Fact) (h : History) (r : Route) → (is_resolved s h r ≡ true → IsResolved s h r) → is_resolved s (fact ∷ h) r ≡ true → IsResolved s (fact ∷ h) r
ended_fact s (Found number stream name bytes) h r more is = by (either_is _ (is_resolved s h r) is)
  where
    by : (number == r.chunk && is_marked_done (output_name s r.output) (recovered_chunk bytes) ≡ true) ⊎ (is_resolved s h r ≡ true) → IsResolved s (Found number stream name bytes ∷ h) r
    by (inl now) =
        let parts = and_parts (number == r.chunk) (is_marked_done (output_name s r.output) (recovered_chunk bytes)) now in
        IsMarkedDone (record {
          stream = stream;
          name = name;
          bytes = bytes;
          found = subst (λ (n : ℕ). Contains (Found number stream name bytes ∷ h) (Found n stream name bytes)) (eqb-true number r.chunk parts.0) (here (Found number stream name bytes) h);
          done = parts.1;
        })
    by (inr before) = still s (Found number stream name bytes) h r (more before)
ended_fact s (OnRoute other outcome) h r more is = by (either_is _ (is_resolved s h r) is)
  where
    by : (same_route other r && resolves outcome ≡ true) ⊎ (is_resolved s h r ≡ true) → IsResolved s (OnRoute other outcome ∷ h) r
    by (inl now) =
        let parts = and_parts (same_route other r) (resolves outcome) now in
        subst (λ (q : Route). IsResolved s (OnRoute other outcome ∷ h) q) (same_routes other r parts.0) (ended_by s other outcome h parts.1)
    by (inr before) = still s (OnRoute other outcome) h r (more before)
ended_fact s fact h r more is = still s fact h r (more is)

ended_where_resolved : (s : AllSettings) (h : History) (r : Route) → is_resolved s h r ≡ true → IsResolved s h r
ended_where_resolved s [] r is = absurd (cc is)
ended_where_resolved s (fact ∷ h) r is = ended_fact s fact h r (ended_where_resolved s h r) is

pub same_itself : (r : Route) → same_route r r ≡ true
same_itself r = rw (eq-eqb r.chunk r.chunk refl, eq-eqb r.output r.output refl) refl

stays_resolved : (s : AllSettings) (fact : Fact) (h : History) (r : Route) → is_resolved s h r ≡ true → is_resolved s (fact ∷ h) r ≡ true
stays_resolved s (Found number stream name bytes) h r is = or_right (number == r.chunk && is_marked_done (output_name s r.output) (recovered_chunk bytes)) (is_resolved s h r) is
stays_resolved s (OnRoute other outcome) h r is = or_right (same_route other r && resolves outcome) (is_resolved s h r) is
stays_resolved s fact h r is = is

resolved_now : (s : AllSettings) (r : Route) (outcome : Outcome) (h : History) → resolves outcome ≡ true → is_resolved s (OnRoute r outcome ∷ h) r ≡ true
resolved_now s r outcome h is = rw (same_itself r, is) refl

resolved_by : (s : AllSettings) (outcome : Outcome) (h : History) (r : Route) → resolves outcome ≡ true → Contains h (OnRoute r outcome) → is_resolved s h r ≡ true
resolved_by s outcome [] r is has = absurd (omega (arith, has.1))
resolved_by s outcome (fact ∷ h) r is has = by (either fact h (OnRoute r outcome) has) (resolved_by s outcome h r is)
  where
    by : (fact ≡ OnRoute r outcome) ⊎ Contains h (OnRoute r outcome) → (Contains h (OnRoute r outcome) → is_resolved s h r ≡ true) → is_resolved s (fact ∷ h) r ≡ true
    by (inl same) more = subst (λ (x : Fact). is_resolved s (x ∷ h) r ≡ true) (sym same) (resolved_now s r outcome h is)
    by (inr before) more = stays_resolved s fact h r (more before)

resolved_found : (s : AllSettings) (stream name bytes : _) (h : History) (r : Route) → is_marked_done (output_name s r.output) (recovered_chunk bytes) ≡ true → Contains h (Found r.chunk stream name bytes) → is_resolved s h r ≡ true
resolved_found s stream name bytes [] r is has = absurd (omega (arith, has.1))
resolved_found s stream name bytes (fact ∷ h) r is has = by (either fact h (Found r.chunk stream name bytes) has) (resolved_found s stream name bytes h r is)
  where
    now : is_resolved s (Found r.chunk stream name bytes ∷ h) r ≡ true
    now = rw (eq-eqb r.chunk r.chunk refl, is) refl

    by : (fact ≡ Found r.chunk stream name bytes) ⊎ Contains h (Found r.chunk stream name bytes) → (Contains h (Found r.chunk stream name bytes) → is_resolved s h r ≡ true) → is_resolved s (fact ∷ h) r ≡ true
    by (inl same) more = subst (λ (x : Fact). is_resolved s (x ∷ h) r ≡ true) (sym same) now
    by (inr before) more = stays_resolved s fact h r (more before)

resolved_where_ended : (s : AllSettings) (h : History) (r : Route) → IsResolved s h r → is_resolved s h r ≡ true
resolved_where_ended s h r (IsDelivered has) = resolved_by s Delivered h r refl has
resolved_where_ended s h r (IsFailed has) = resolved_by s Failed h r refl has
resolved_where_ended s h r (IsExhausted has) = resolved_by s Exhausted h r refl has
resolved_where_ended s h r (IsEvicted has) = resolved_by s Evicted h r refl has
resolved_where_ended s h r (IsMarkedDone is) = resolved_found s is.stream is.name is.bytes h r is.done is.found

pub resolved_as_ended : (s : AllSettings) (h : History) (r : Route) → (is_resolved s h r ≡ true) ↔ IsResolved s h r
resolved_as_ended s h r = (ended_where_resolved s h r, resolved_where_ended s h r)

-- ---- which outputs a chunk is pending for

pub owed_as_unresolved : (s : AllSettings) (h : History) (c : ChunkInfo) (output : ℕ)
    → Contains (owed s h c) output ↔ (Contains (outputs_for s c.tag) output × (is_resolved s h (route c.number output) ≡ false))
owed_as_unresolved s h c output =
    let resolved : Bool = is_resolved s h (route c.number output) in (
      λ has. let kept = from_filter _ (outputs_for s c.tag) output has in (kept.0, off_where_not resolved kept.1),
      λ has. in_filter _ (outputs_for s c.tag) output has.0 (not_where_off resolved has.1),
    )
