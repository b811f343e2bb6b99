use Rattle.std.proofs.Common.{◌≡◌, List, ℕ, Some, None, sym, ap, ◌∙◌}
use Rattle.std.specs.Prelude.{option_copied}
use Rattle.fwd_model.specs.InputActions.{hangs_up}
use Rattle.fwd_model.proofs.Actions.{stays}
use Rattle.fwd_engine_ingest.specs.Continuation.{with_loop}
use Rattle.fwd_engine_ingest.proofs.Replies.{went_end}
use Rattle.fwd_engine_ingest.proofs.messages.answer.Goals as goal

pub returns-in_err-hang_up-clause-acts : goal.returns-in_err-hang_up-clause-acts
returns-in_err-hang_up-clause-acts g c s others h next shows =
    rw c.if-not-taken.true (went_end s _ (hangs_up c.args.conn.0 h) next c.from_residual.result c.from_residual.ensures.0 (c.in_err-hang_up.ensures.acts s others h shows))

pub returns-in-Some-clause-acts : goal.returns-in-Some-clause-acts
returns-in-Some-clause-acts g c s others h next shows =
    let asked : option_copied c.args.asked ≡ Some c.as_slice.result.now = ap option_copied c.in-Some.is ∙ ap (λ (l : List ℕ). Some l) (sym c.as_slice.ensures) in
    rw (c.if-not-taken.false, asked) (c.reply.ensures.acts s others h next shows)

-- no acknowledgement, and the messages after it are handled
pub returns-in-None-clause-acts : goal.returns-in-None-clause-acts
returns-in-None-clause-acts g c s others h next shows =
    let asked : option_copied c.args.asked ≡ None = ap option_copied c.in-None.is in
    rw (c.if-not-taken.false, asked) (h, shows, stays (with_loop (g.L.Loop.call_log c.args.outside.now) others) (next h))
