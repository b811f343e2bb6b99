use Rattle.std.proofs.Common.{◌≡◌, ◌+◌, ◌*◌, ℕ, Some, None, sym, ◌∙◌, ap}
use Rattle.std.specs.Prelude.{◌&&◌, ◌||◌, nat_le}
use Rattle.fwd_model.specs.Clock.{clock, stopped}
use Rattle.fwd_model.specs.Run.{is_over}
use Rattle.fwd_engine.proofs.run_end.is_finished.Goals as goal

pub returns-in-None : goal.returns-in-None
unfolding is_over
returns-in-None c h shows =
    let s = c.args.run.now in
    let is : stopped s h ≡ None = sym (c.stopped.ensures s h None shows.state) ∙ c.in-None.is in
    rw is c.is_end_event.ensures

pub returns-in-Some : goal.returns-in-Some
unfolding is_over
returns-in-Some c h shows =
    let s = c.args.run.now in
    let is : stopped s h ≡ Some c.in-Some.at = sym (c.stopped.ensures s h None shows.state) ∙ c.in-Some.is in
    let late = c.is_late-late.ensures s h None shows.state ∙ ap (λ (n : ℕ). nat_le (c.in-Some.at + 1000 * n) (clock h)) c.grace_s.ensures in
    rw is (c.is_any.ensures ∙ (λ i. c.is_end_event-ends.ensures i || (c.is_done-done.ensures s h None shows.state i || (c.is_clock_tick-ticks.ensures i && late i))))
