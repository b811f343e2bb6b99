use Rattle.std.proofs.Common.{append_assoc, refl}
use Rattle.fwd_log.proofs.line.push_time.Goals as goal

pub returns : goal.returns
returns c = record {
  date = c.date_of.result;
  on = c.date_of.ensures;
  is = rw (c.in_ok-push_clock.ensures, c.in_ok-push-2.ensures.ok, c.in_ok-push_date.ensures, c.in_ok-push.ensures.ok) (simp append_assoc refl);
}
