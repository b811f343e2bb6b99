use Rattle.std.proofs.Common.{refl}
use Rattle.fwd_outside.specs.declared.happening.Happening.TheVariants as happening
use Rattle.fwd_model.specs.Fact.{History, Happened}
use Rattle.fwd_model.specs.StepActions.{step}
use Rattle.fwd_model.proofs.Refinement.{completes_note}
use Rattle.fwd_engine_state.specs.PartsRepresent.{PartsRepresentIdle}
use Rattle.fwd_engine_ingest.proofs.StreamFactSteps.{represents_by_streams}
use Rattle.fwd_engine_ingest.proofs.input_streams.remove_peer.Goals as goal

pub returns : goal.returns
unfolding step
returns c others h shows =
    let s = c.args.run.now in
    let remove_peer = Happened (happening.Gone c.args.input c.args.conn) in
    completes_note (λ (now : History). PartsRepresentIdle s _ now) others remove_peer h
    (represents_by_streams s c.args.parts.now _ h remove_peer refl refl refl refl refl refl refl (c.leave_input.ensures s h shows.input_streams) shows)
