use Rattle.std.proofs.Common.{append_assoc, refl}
use Rattle.fwd_log.proofs.line.line_of.Goals as goal

pub returns : goal.returns
returns c = record {
  date = c.in_ok-push_time.ensures.date;
  on = c.in_ok-push_time.ensures.on;
  is = rw (c.in_ok-push.ensures.ok, c.in_ok-push_printable.ensures, c.in_ok-push_head.ensures, c.in_ok-push_time.ensures.is, c.new-line.ensures) (simp append_assoc refl);
}
