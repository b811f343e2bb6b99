use Rattle.std.proofs.Common.{◌≡◌, ◌≢◌, ℕ, true, false, ◌∷◌, List, [], length, Some, None, refl, sym, ap, ◌∙◌, arith}
use Rattle.std.proofs.lemmas.Bool.{eq-eqb, ne_eqb}
use Rattle.fwd_model.specs.Fact.{Batch, Accepted, NoChunk, Refused, TooLarge}
use Rattle.fwd_model.specs.Settings.{outputs_for}
use Rattle.fwd_model.specs.Chunks.{is_storable}
use Rattle.fwd_model.specs.Notes.{is_empty}
use Rattle.fwd_model.specs.Acceptance.{accepts, taken, ends_refused}
use Rattle.fwd_model.proofs.Refinement.{completes_note_then, completes_idle}
use Rattle.fwd_engine_state.proofs.FactSteps.{represents_by_state}
use Rattle.fwd_engine_chunks.proofs.EncodingLemmas.{encodes, unstorable_of}
use Rattle.fwd_engine_chunks.proofs.StoreOutcome.{RepresentsBatch}
use Rattle.fwd_engine_chunks.proofs.acceptance.accept_encoded.Goals as goal

none_of : {T : Type 0} (n : ℕ) (xs : List T) → n ≡ length xs → n ≡ 0 → is_empty xs ≡ true
none_of n [] many none = refl
none_of n (x ∷ xs) many none = absurd (omega (arith, many, none))

some_list : {T : Type 0} (n : ℕ) (xs : List T) → n ≡ length xs → n ≢ 0 → is_empty xs ≡ false
some_list n [] many some = absurd (some many)
some_list n (x ∷ xs) many some = refl

some_of : {T : Type 0} (xs : List T) → is_empty xs ≡ false → xs ≢ []
some_of [] none = λ e. absurd (cc none)
some_of (x ∷ xs) some = λ e. absurd (cc e)

pub store-requires-clause-routes : goal.store-requires-clause-routes
store-requires-clause-routes g c = record {
  routes = c.routes_for-routes.ensures.routes;
  some = some_of _ (sym c.routes_for-routes.ensures.none ∙ ne_eqb c.routes_for-routes.result 0 c.if-routes-eq0.false);
}

pub returns-then-batch-eq0-clause-acts : goal.returns-then-batch-eq0-clause-acts
unfolding accepts
returns-then-batch-eq0-clause-acts g c events holds others h shows =
    let s = c.args.run.now in
    let none : is_empty events ≡ true = none_of c.args.batch.now.count events holds.count c.if-batch-eq0.true in
    rw none (completes_idle (RepresentsBatch s c.args.parts.now true) _ (record { history = h; taken = true }) (refl, shows))

pub returns-then-routes-eq0-clause-acts : goal.returns-then-routes-eq0-clause-acts
unfolding accepts
returns-then-routes-eq0-clause-acts g c events holds others h shows =
    let s = c.args.run.now in
    let b : Batch = record { input = c.args.input.0; tag = c.args.tag.now; events = events } in
    let some : is_empty events ≡ false = some_list c.args.batch.now.count events holds.count c.if-batch-eq0.false in
    let nobody : is_empty (outputs_for s c.args.tag.now) ≡ true = sym c.routes_for-routes.ensures.none ∙ eq-eqb c.routes_for-routes.result 0 c.if-routes-eq0.true in
    let shown = represents_by_state s c.args.parts.now _ h None None None (Accepted b NoChunk) refl refl refl refl refl refl refl (c.accept_unrouted.ensures b refl (sym holds.count) s h None shows.state) shows in
    rw (some, nobody) (completes_note_then (RepresentsBatch s _ true) _ _ (Accepted b NoChunk) h taken
    (completes_idle (RepresentsBatch s _ true) _ (record { history = Accepted b NoChunk ∷ h; taken = true }) (refl, shown)))

pub returns-in-Some-clause-acts : goal.returns-in-Some-clause-acts
unfolding accepts
returns-in-Some-clause-acts g c events holds others h shows =
    let s = c.args.run.now in
    let some : is_empty events ≡ false = some_list c.args.batch.now.count events holds.count c.if-batch-eq0.false in
    let somebody : is_empty (outputs_for s c.args.tag.now) ≡ false = sym c.routes_for-routes.ensures.none ∙ ne_eqb c.routes_for-routes.result 0 c.if-routes-eq0.false in
    let held = encodes events c.args.batch.now _ holds (c.in-Some.is ∙ ap (λ (l : List ℕ). Some l) (sym c.as_slice.ensures)) in
    rw (some, somebody, held.0) (c.store.ensures.acts events held.1 (sym holds.count) others h shows)

pub returns-in-None-clause-acts : goal.returns-in-None-clause-acts
unfolding accepts
returns-in-None-clause-acts g c events holds others h shows =
    let s = c.args.run.now in
    let b : Batch = record { input = c.args.input.0; tag = c.args.tag.now; events = events } in
    let some : is_empty events ≡ false = some_list c.args.batch.now.count events holds.count c.if-batch-eq0.false in
    let somebody : is_empty (outputs_for s c.args.tag.now) ≡ false = sym c.routes_for-routes.ensures.none ∙ ne_eqb c.routes_for-routes.result 0 c.if-routes-eq0.false in
    let large : is_storable events ≡ false = unstorable_of events (sym c.in-None.is ∙ holds.bytes.encoding) in
    let shown = represents_by_state s c.args.parts.now _ h None None None (Refused b TooLarge) refl refl refl refl refl refl refl (c.count_refused.ensures.batch b TooLarge refl s h None shows.state) shows in
    rw (some, somebody, large) (completes_note_then (RepresentsBatch s _ false) _ _ (Refused b TooLarge) h ends_refused
    (completes_idle (RepresentsBatch s _ false) _ (record { history = Refused b TooLarge ∷ h; taken = false }) (refl, shown)))
