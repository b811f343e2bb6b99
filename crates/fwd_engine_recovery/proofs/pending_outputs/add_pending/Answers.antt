use Rattle.std.proofs.Common.{◌≡◌, ℕ, List, [], None, sym, ◌∙◌, ap, subst}
use Rattle.std.proofs.lemmas.Bool.{eq-eqb, ne_eqb}
use Rattle.fwd_model.specs.Notes.{is_empty}
use Rattle.fwd_model.specs.Settings.{outputs_for}
use Rattle.fwd_engine_recovery.specs.Adoption.{remaining_outputs}
use Rattle.fwd_engine_recovery.proofs.FileKinds.{whole_found, passes_nobody, leaves_done, IsOwed, is_loaded}
use Rattle.fwd_engine_recovery.proofs.pending_outputs.add_pending.Goals as goal

pub returns-then-routes-eq0 : goal.returns-then-routes-eq0
returns-then-routes-eq0 c stream name bytes h seen below shows =
    let s = c.args.run.now in
    let none : is_empty (outputs_for s c.args.brief.now.tag) ≡ _ = ap (λ (tag : List ℕ). is_empty (outputs_for s tag)) (sym c.as_slice-tag.ensures) ∙ sym c.routes_for-routes.ensures.none ∙ eq-eqb c.routes_for-routes.result 0 c.if-routes-eq0.true in
    c.count_unrouted.ensures c.args.chunk.0 stream name bytes s h None shows (below, passes_nobody s bytes c.args.brief.now (whole_found bytes c.args.brief.now seen) none)

pub returns-in-None : goal.returns-in-None
returns-in-None c stream name bytes h seen below shows =
    let s = c.args.run.now in
    let some : is_empty (outputs_for s c.args.brief.now.tag) ≡ _ = ap (λ (tag : List ℕ). is_empty (outputs_for s tag)) (sym c.as_slice-tag.ensures) ∙ sym c.routes_for-routes.ensures.none ∙ ne_eqb c.routes_for-routes.result 0 c.if-routes-eq0.false in
    let none : remaining_outputs s c.args.brief.now.tag c.args.brief.now.done ≡ [] = ap (λ (tag : List ℕ). remaining_outputs s tag c.args.brief.now.done) (sym c.as_slice-tag.ensures) ∙ c.in-None.ensures c.as_slice-tag.result.now c.routes_for-routes.ensures.routes in
    c.count_left.ensures c.args.chunk.0 stream name bytes s h None shows (below, leaves_done s bytes c.args.brief.now (whole_found bytes c.args.brief.now seen) some none)

pub returns-in_ok-place-in-Some : goal.returns-in_ok-place-in-Some
returns-in_ok-place-in-Some c stream name bytes h seen below shows =
    let s = c.args.run.now in
    let brief = c.args.brief.now in
    c.add_recovered.ensures stream name bytes s h None (c.in_ok-place-in-Some.ensures.keeps s h None shows) (
      below,
      is_loaded s bytes brief (whole_found bytes brief seen) c.in_ok-place-in-Some.place.tag c.in-Some.left (c.in_ok-place-in-Some.ensures.place ∙ c.as_slice-tag.ensures)
          (subst (λ (tag : List ℕ). IsOwed s tag brief.done c.in-Some.left) c.as_slice-tag.ensures (c.in-Some.ensures c.as_slice-tag.result.now c.routes_for-routes.ensures.routes)),
    )
