use Rattle.fwd_secure.proofs.InputSteps.{hears_held}
use Rattle.fwd_secure.proofs.inputs.hear.Goals as goal

pub returns-in-Some-clause-calls : goal.returns-in-Some-clause-calls
returns-in-Some-clause-calls g c =
    hears_held c.args.ring.now c.args.state.now c.args.input c.args.conn c.args.piece _ _ c.in-Some.held _ _ _ c.in-Some.ensures.held c.in-Some.ensures.some c.as_slice.ensures c.judge.ensures.calls
