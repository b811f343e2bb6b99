use Rattle.std.proofs.Common.{◌∷◌, None, refl}
use Rattle.fwd_model.specs.Fact.{OnRoute, Evicted}
use Rattle.fwd_model.specs.ResolveActions.{marks_or_removes}
use Rattle.fwd_model.proofs.Refinement.{refines_note_then}
use Rattle.fwd_engine_state.specs.Views.{route_of}
use Rattle.fwd_engine_state.proofs.IdleRoutes.{idle_closed}
use Rattle.fwd_engine_state.proofs.FactSteps.{represents_by_state}
use Rattle.fwd_engine_chunks.proofs.eviction.evict_route.Goals as goal

pub returns-clause-acts : goal.returns-clause-acts
returns-clause-acts g c others h shows idle =
    let s = c.args.run.now in
    let r = route_of c.args.route in
    let shown = represents_by_state s _ (record c.args.parts.now { state = c.evict.new.self }) h None None None (OnRoute r Evicted) refl refl refl refl refl refl refl (c.evict.ensures s h None shows.state idle) shows in
    refines_note_then _ _ _ (OnRoute r Evicted) h (marks_or_removes s r) c.settle.result
    (c.settle.ensures.acts others (OnRoute r Evicted ∷ h) shown (idle_closed s h r idle shows.state.numbers).0)
