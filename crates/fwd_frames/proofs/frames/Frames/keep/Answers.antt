use Rattle.std.proofs.Common.{sym, ap, ◌∙◌}
use Rattle.fwd_base.specs.Limits.{longest_line}
use Rattle.fwd_frames.specs.LineSteps.{state_with_more}
use Rattle.fwd_frames.proofs.KeptRest.{kept_at-append}
use Rattle.fwd_frames.proofs.frames.Frames.keep.Goals as goal

pub returns-clause-ok : goal.returns-clause-ok
returns-clause-ok c = λ part is.
    c.in_ok-self-inside.ensures.ok ∙ ap (λ kept. state_with_more kept c.args.more.now) (c.self.view_is ∙ is)
    ∙ sym (kept_at-append longest_line part c.args.more.now)
