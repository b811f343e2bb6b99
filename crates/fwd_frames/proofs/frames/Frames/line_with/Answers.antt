use Rattle.std.proofs.Common.{◌≡◌, ◌++◌, sym, ap, ◌∙◌}
use Rattle.fwd_base.specs.Limits.{longest_line}
use Rattle.fwd_frames.specs.LineSteps.{state_with_more, state_of}
use Rattle.fwd_frames.proofs.KeptRest.{kept_at-append, line_at-cut, line_at-whole}
use Rattle.fwd_frames.proofs.frames.Frames.line_with.Goals as goal

pub returns-then-cut : goal.returns-then-cut
returns-then-cut c = λ part is.
    let copied : c.in_ok-bytes.bytes ≡ c.self.inside.rest = c.in_ok-bytes.ensures in
    let all = kept_at-append longest_line part c.args.more.now
    ∙ sym (c.in_ok-cut.ensures.ok ∙ ap (λ kept. state_with_more kept c.args.more.now) (ap (λ bytes. state_of bytes c.self.inside.cut) copied ∙ c.self.view_is ∙ is)) in
    sym (line_at-cut longest_line (part ++ c.args.more.now) _ _ all c.if-cut.true)

pub returns : goal.returns
returns c = λ part is.
    let copied : c.in_ok-bytes.bytes ≡ c.self.inside.rest = c.in_ok-bytes.ensures in
    let all = kept_at-append longest_line part c.args.more.now
    ∙ sym (c.in_ok-cut.ensures.ok ∙ ap (λ kept. state_with_more kept c.args.more.now) (ap (λ bytes. state_of bytes c.self.inside.cut) copied ∙ c.self.view_is ∙ is)) in
    let line = line_at-whole longest_line (part ++ c.args.more.now) _ _ all c.if-cut.false in
    sym (rw c.trim_return.ensures line)
