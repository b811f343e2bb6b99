use Rattle.std.proofs.Common.{refl}
use Rattle.fwd_model.specs.InputActions.{hangs_up}
use Rattle.fwd_engine_ingest.proofs.StreamFactSteps.{acts_end}
use Rattle.fwd_engine_ingest.proofs.Replies.{hung_up, no_loop_call, represents_dropped}
use Rattle.fwd_engine_ingest.proofs.messages.hang_up.Goals as goal

pub returns-in_err-drop_conn-clause-acts : goal.returns-in_err-drop_conn-clause-acts
returns-in_err-drop_conn-clause-acts g c s others h shows =
    acts_end s _ _ c.from_residual.result c.from_residual.ensures.0 (no_loop_call others _ _ (hangs_up c.args.conn.0 h) c.in_err-drop_conn.ensures.call_log)

pub returns-clause-acts : goal.returns-clause-acts
returns-clause-acts g c s others h shows =
    hung_up s others _ _ _ c.args.conn.0 h c.in_ok-drop_conn.ensures.call_log
    (represents_dropped s c.args.parts.now _ h c.args.conn.0 refl refl refl (c.remove_connection.ensures s h shows.input_streams) shows)
