use Rattle.std.proofs.Common.{append_assoc, refl}
use Rattle.fwd_log.specs.Line.{date_text}
use Rattle.fwd_log.proofs.line.push_date.Goals as goal

pub returns : goal.returns
unfolding date_text
returns c =
    rw (c.in_ok-push_two-2.ensures, c.from-3.ensures, c.in_ok-push-2.ensures.ok, c.in_ok-push_two.ensures, c.from-2.ensures, c.in_ok-push.ensures.ok, c.in_ok-push_decimal.ensures.ok, c.from.ensures, c.year_of.ensures)
    (simp append_assoc refl)
