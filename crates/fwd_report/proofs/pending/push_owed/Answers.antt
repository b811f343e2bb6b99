use Rattle.std.proofs.Common.{append_assoc, refl}
use Rattle.fwd_report.specs.Report.{owed_part}
use Rattle.fwd_report.proofs.pending.push_owed.Goals as goal

pub returns : goal.returns
unfolding owed_part
returns c = rw (c.in_ok-push_rows.ensures, c.in_ok-push.ensures.ok, c.in_ok-push_count.ensures, c.owed_routes.ensures) (simp append_assoc refl)
