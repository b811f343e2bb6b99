use Rattle.std.proofs.Common.{append_assoc, refl}
use Rattle.fwd_report.specs.Report.{total_line}
use Rattle.fwd_report.proofs.counters.push_totals.Goals as goal

pub returns : goal.returns
unfolding total_line
returns c =
    rw (c.in_ok-extend_from_slice.ensures.ok, c.in_ok-push_count-4.ensures, c.in_ok-push_count-3.ensures, c.in_ok-push_count-2.ensures, c.in_ok-push_count.ensures)
    (simp append_assoc refl)
