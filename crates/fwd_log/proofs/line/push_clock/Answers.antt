use Rattle.std.proofs.Common.{append_assoc, refl}
use Rattle.fwd_log.specs.Line.{clock_text}
use Rattle.fwd_log.proofs.line.push_clock.Goals as goal

pub returns : goal.returns
unfolding clock_text
returns c = rw (c.in_ok-push_two-3.ensures, c.in_ok-push-2.ensures.ok, c.in_ok-push_two-2.ensures, c.in_ok-push.ensures.ok, c.in_ok-push_two.ensures) (simp append_assoc refl)
