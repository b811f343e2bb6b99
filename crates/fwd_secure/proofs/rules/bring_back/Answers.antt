use Rattle.fwd_outside.specs.declared.happening.Happening.TheVariants.{Back}
use Rattle.fwd_secure.proofs.EventCalls.{back_greets, back_passes}
use Rattle.fwd_secure.proofs.rules.bring_back.Goals as goal

pub returns-in-Some-clause-calls : goal.returns-in-Some-clause-calls
returns-in-Some-clause-calls g c =
    back_greets c.args.keys.now c.args.state.now c.args.link c.args.bytes (Back c.args.link c.args.bytes) _ _ c.in-Some.handshake _ _ _ c.in-Some.ensures.handshake c.in-Some.ensures.some c.as_slice.ensures c.greet.ensures.calls

pub returns-in-None-clause-calls : goal.returns-in-None-clause-calls
returns-in-None-clause-calls g c =
    back_passes c.args.keys.now c.args.state.now c.args.link c.args.bytes (Back c.args.link c.args.bytes) _ _ c.in-None.ensures.handshake c.in-None.ensures.none
