use Rattle.std.proofs.Common.{Some, None}
use Rattle.fwd_model.specs.Fact.{History}
use Rattle.fwd_model.specs.InputActions.{hangs_up, replies}
use Rattle.fwd_model.proofs.Actions.{begun_trans}
use Rattle.fwd_model.proofs.Refinement.{completes_after}
use Rattle.fwd_engine_state.specs.PartsRepresent.{PartsRepresentIdle}
use Rattle.fwd_engine_ingest.proofs.Replies.{went_end, no_loop_call, reply_calls}
use Rattle.fwd_engine_ingest.proofs.messages.reply.Goals as goal

pub returns-in-Taken-clause-acts : goal.returns-in-Taken-clause-acts
returns-in-Taken-clause-acts g c s others h next shows = (h, shows, reply_calls others _ _ c.args.conn.0 c.args.bytes.now (Some tt) next h c.in-Taken.ensures.call_log)

pub returns-in_ok-hang_up-in-Broken-clause-acts : goal.returns-in_ok-hang_up-in-Broken-clause-acts
returns-in_ok-hang_up-in-Broken-clause-acts g c s others h next shows =
    completes_after (λ (now : History). PartsRepresentIdle s c.hang_up.new.parts now) _ (replies c.args.conn.0 (Some c.args.bytes.now) next h) (hangs_up c.args.conn.0 h)
    (reply_calls others _ _ c.args.conn.0 c.args.bytes.now None next h c.in-Broken.ensures.call_log) (c.in_ok-hang_up-in-Broken.ensures.acts s others h shows)

pub returns-in_err-hang_up-in-Broken-clause-acts : goal.returns-in_err-hang_up-in-Broken-clause-acts
returns-in_err-hang_up-in-Broken-clause-acts g c s others h next shows =
    went_end s _ (replies c.args.conn.0 (Some c.args.bytes.now) next h) next c.from_residual.result c.from_residual.ensures.0
    (begun_trans (reply_calls others _ _ c.args.conn.0 c.args.bytes.now None next h c.in-Broken.ensures.call_log) (c.in_err-hang_up-in-Broken.ensures.acts s others h shows))

pub returns-in-Memory-clause-acts : goal.returns-in-Memory-clause-acts
returns-in-Memory-clause-acts g c s others h next shows = no_loop_call others _ _ (replies c.args.conn.0 (Some c.args.bytes.now) next h) c.in-Memory.ensures.call_log
