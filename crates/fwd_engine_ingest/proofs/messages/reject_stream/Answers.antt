use Rattle.std.proofs.Common.{◌∷◌, None, refl}
use Rattle.fwd_model.specs.Fact.{History, Malformed}
use Rattle.fwd_model.specs.InputActions.{hangs_up}
use Rattle.fwd_model.proofs.Refinement.{refines_note_then}
use Rattle.fwd_engine_state.specs.PartsRepresent.{PartsRepresentIdle}
use Rattle.fwd_engine_state.proofs.FactSteps.{represents_by_state}
use Rattle.fwd_engine_ingest.proofs.messages.reject_stream.Goals as goal

pub returns-clause-acts : goal.returns-clause-acts
returns-clause-acts g c s others h shows =
    let misread = Malformed c.args.input.0 in
    let shown = represents_by_state s c.args.parts.now _ h None None None misread refl refl refl refl refl refl refl (c.count_refused.ensures.misread s h None shows.state) shows in
    refines_note_then (λ _ (now : History). PartsRepresentIdle s c.hang_up.new.parts now) _ _ misread h (hangs_up c.args.conn.0) c.hang_up.result (c.hang_up.ensures.acts s others (misread ∷ h) shown)
