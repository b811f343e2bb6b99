use Rattle.std.proofs.Common.{true, false, refl}
use Rattle.fwd_outside.specs.Loop.{Wait}
use Rattle.fwd_secure.proofs.AllowedCalls.{by_keyed, passed_allowed}
use Rattle.fwd_secure.proofs.CallCounts.{wait_asks, wait_passes}
use Rattle.fwd_secure.proofs.rules.wait.Goals as goal

pub returns-then-keyed-clause-calls : goal.returns-then-keyed-clause-calls
returns-then-keyed-clause-calls g c =
    by_keyed c.args.keys.now c.args.state.now (Wait c.args.until c.args.paused) c.args.keyed true _ _ _ c.if-keyed.true c.wait_keyed.ensures.calls

pub returns-then-keyed-clause-counted : goal.returns-then-keyed-clause-counted
returns-then-keyed-clause-counted g c = rw c.if-keyed.true c.wait_keyed.ensures.counted

pub returns-else-keyed-clause-calls : goal.returns-else-keyed-clause-calls
returns-else-keyed-clause-calls g c =
    by_keyed c.args.keys.now c.args.state.now (Wait c.args.until c.args.paused) c.args.keyed false _ _ _ c.if-keyed.false
    (passed_allowed c.args.keys.now c.args.state.now c.args.until c.args.paused _ _ _ c.wait.result c.wait.ensures.call_log c.wait.ensures.allowed)

pub returns-else-keyed-clause-counted : goal.returns-else-keyed-clause-counted
returns-else-keyed-clause-counted g c = wait_asks _ _ _ _ (rw c.if-keyed.false refl) (wait_passes _ _ c.wait.result c.wait.ensures.counted)
