use Rattle.std.proofs.Common.{true, false}
use Rattle.fwd_model.specs.CloseActions.{closes_all}
use Rattle.fwd_model.specs.FlushActions.{walk}
use Rattle.fwd_model.specs.StepActions.{closes_and_dispatches}
use Rattle.fwd_model.specs.CallLogs.{CallLogs}
use Rattle.fwd_model.proofs.Actions.{begun_bind}
use Rattle.fwd_model.proofs.Refinement.{refines_bind, refines_err}
use Rattle.fwd_engine.proofs.dispatch.close_and_dispatch.Goals as goal

pub returns-in_err-close_all-clause-acts : goal.returns-in_err-close_all-clause-acts
unfolding closes_and_dispatches
returns-in_err-close_all-clause-acts g c others h shows =
    let s = c.args.run.now in
    let w : CallLogs = record others { loop = g.L.Loop.call_log c.args.outside.now } in
    rw c.if-closing.true (refines_err _ _ c.from_residual.result c.from_residual.ensures.0 (begun_bind (walk s) (c.in_err-close_all.ensures.acts w h shows)))

pub returns-in_ok-close_all-clause-acts : goal.returns-in_ok-close_all-clause-acts
unfolding closes_and_dispatches
returns-in_ok-close_all-clause-acts g c others h shows =
    let s = c.args.run.now in
    let w : CallLogs = record others { loop = g.L.Loop.call_log c.args.outside.now } in
    rw c.if-closing.true (refines_bind _ _ _ (closes_all s h) (walk s) c.walk.result (c.in_ok-close_all.ensures.acts w h shows) (λ now shown. c.walk.ensures.acts others now shown))

pub returns-else-closing-clause-acts : goal.returns-else-closing-clause-acts
unfolding closes_and_dispatches
returns-else-closing-clause-acts g c others h shows = rw c.if-closing.false (c.walk-else-closing.ensures.acts others h shows)
