use Rattle.std.proofs.Common.{refl}
use Rattle.fwd_secure.proofs.RuleSteps.{cut}
use Rattle.fwd_secure.proofs.PassedOn.{close_passes, close_stops}
use Rattle.fwd_secure.proofs.rules.close.Goals as goal

pub returns-in_err-close-clause-calls : goal.returns-in_err-close-clause-calls
returns-in_err-close-clause-calls g c keys =
    cut _ _ _ c.from_residual.result _ c.from_residual.ensures.0 (close_stops c.args.keyed keys c.args.state.now _ _ c.args.link.0 c.in_err-close.ensures.call_log)

pub returns-then-not-keyed-clause-calls : goal.returns-then-not-keyed-clause-calls
returns-then-not-keyed-clause-calls g c keys = close_passes c.args.keyed keys c.args.state.now _ _ _ c.args.link.0 (rw c.if-not-keyed.true refl) c.in_ok-close.ensures.call_log

pub returns-clause-calls : goal.returns-clause-calls
returns-clause-calls g c keys = close_passes c.args.keyed keys c.args.state.now _ _ _ c.args.link.0 (rw c.if-not-keyed.false c.close-2.ensures) c.in_ok-close.ensures.call_log
