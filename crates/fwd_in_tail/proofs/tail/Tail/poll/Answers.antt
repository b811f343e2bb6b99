use Rattle.std.proofs.Common.{ap, ◌∙◌}
use Rattle.fwd_in_tail.specs.Polls.{TailView}
use Rattle.fwd_in_tail.proofs.PollCalls.{unmeasured, unread, unkept, took}
use Rattle.fwd_in_tail.proofs.tail.Tail.poll.Goals as goal

pub returns-in_err-long-clause-polls : goal.returns-in_err-long-clause-polls
returns-in_err-long-clause-polls g c = λ f is.
    unmeasured _ _ c.args.self.now c.args.self.now f _ (c.as_slice.ensures ∙ ap (λ (v : TailView). v.path) c.self.view_is)
    c.in_err-long.field-0.0 c.from_residual.result c.from_residual.ensures.0 c.from_residual.ensures.1 c.in_err-long.ensures.call_log

pub returns-in_err-bytes-clause-polls : goal.returns-in_err-bytes-clause-polls
returns-in_err-bytes-clause-polls g c = λ f is.
    unread _ _ c.args.self.now c.args.self.now f _ (c.as_slice.ensures ∙ ap (λ (v : TailView). v.path) c.self.view_is) _ c.in_ok-long.long c.in_ok-long.ensures.call_log
    _ (c.as_slice-2.ensures ∙ ap (λ (v : TailView). v.path) c.self.view_is) c.read_start-from.result c.read_start-from.ensures is.place
    c.in_err-bytes.field-0.0 c.from_residual-in_err-bytes.result c.from_residual-in_err-bytes.ensures.0 c.from_residual-in_err-bytes.ensures.1 c.in_err-bytes.ensures.call_log

pub returns-in_err-take_in-clause-polls : goal.returns-in_err-take_in-clause-polls
returns-in_err-take_in-clause-polls g c = λ f is.
    unkept _ _ c.args.self.now c.take_in.new.self f _ (c.as_slice.ensures ∙ ap (λ (v : TailView). v.path) c.self.view_is) _ c.in_ok-long.long c.in_ok-long.ensures.call_log
    _ (c.as_slice-2.ensures ∙ ap (λ (v : TailView). v.path) c.self.view_is) c.read_start-from.result c.read_start-from.ensures is.place
    c.in_ok-bytes.bytes c.in_ok-bytes.ensures.call_log
    c.from_residual-in_err-take_in.result c.from_residual-in_err-take_in.ensures.0 c.from_residual-in_err-take_in.ensures.1

pub returns-clause-polls : goal.returns-clause-polls
returns-clause-polls g c = λ f is.
    took _ _ c.args.self.now c.take_in.new.self f _ (c.as_slice.ensures ∙ ap (λ (v : TailView). v.path) c.self.view_is) _ c.in_ok-long.long c.in_ok-long.ensures.call_log
    _ (c.as_slice-2.ensures ∙ ap (λ (v : TailView). v.path) c.self.view_is) c.read_start-from.result c.read_start-from.ensures is.place
    c.in_ok-bytes.bytes c.in_ok-bytes.ensures.call_log
    _ c.as_slice-3.ensures _ (c.in_ok-take_in.ensures.lines f is)
