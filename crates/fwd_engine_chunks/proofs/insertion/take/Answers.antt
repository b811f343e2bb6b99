use Rattle.std.proofs.Common.{◌∷◌, true, None}
use Rattle.fwd_outside.specs.Program.{bind}
use Rattle.fwd_model.specs.Fact.{History, Offered, Accepted}
use Rattle.fwd_model.specs.CloseActions.{closes_if_full}
use Rattle.fwd_model.specs.Acceptance.{taken}
use Rattle.fwd_model.proofs.Actions.{fact_noted, begun_bind, begun_trans}
use Rattle.fwd_model.proofs.Refinement.{completes_note_then, refines_err}
use Rattle.fwd_engine_chunks.specs.BatchOutcome.{behind, place_of}
use Rattle.fwd_engine_chunks.proofs.StoreOutcome.{RepresentsBatch, taken_behind, represents_accepted}
use Rattle.fwd_engine_chunks.proofs.insertion.take.Goals as goal

pub returns-in_err-close_if_full-clause-acts : goal.returns-in_err-close_if_full-clause-acts
returns-in_err-close_if_full-clause-acts g c others h b input tag events ahead has =
    let s = c.args.run.now in
    let a = c.args.accepted in
    let shown = represents_accepted s c.args.parts.now c.note.new.state h b a ahead has (λ stands. c.note.ensures b (Offered a.chunk.0 b ∷ h) None input tag events stands has.sizes) in
    refines_err (RepresentsBatch s _) _ c.from_residual.result c.from_residual.ensures.0
    (begun_trans (fact_noted _ (Accepted b (place_of a)) (λ _. bind (closes_if_full s a.chunk.0 (behind b h a)) taken))
    (begun_bind taken (c.in_err-close_if_full.ensures.acts others (behind b h a) shown has.still has.given has.bytes)))

pub returns-clause-acts : goal.returns-clause-acts
returns-clause-acts g c others h b input tag events ahead has =
    let s = c.args.run.now in
    let a = c.args.accepted in
    let shown = represents_accepted s c.args.parts.now c.note.new.state h b a ahead has (λ stands. c.note.ensures b (Offered a.chunk.0 b ∷ h) None input tag events stands has.sizes) in
    completes_note_then (RepresentsBatch s _ true) _ _ (Accepted b (place_of a)) (Offered a.chunk.0 b ∷ h) (λ (at : History). bind (closes_if_full s a.chunk.0 at) taken)
    (taken_behind s _ _ _ (closes_if_full s a.chunk.0 (behind b h a)) (c.in_ok-close_if_full.ensures.acts others (behind b h a) shown has.still has.given has.bytes))
