use Rattle.std.proofs.Common.{sym, ◌∙◌}
use Rattle.fwd_live_poll.proofs.Masked.{not_set, not_true}
use Rattle.fwd_live_poll.proofs.mask.is_heard.Goals as goal

pub returns-clause-heard : goal.returns-clause-heard
returns-clause-heard c heard = not_set c.args.paused c.args.input.0 (sym c.is_set.ensures ∙ not_true c.is_set.result heard)
