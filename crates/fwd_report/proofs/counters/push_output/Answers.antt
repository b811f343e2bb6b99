use Rattle.std.proofs.Common.{append_assoc, refl}
use Rattle.fwd_report.specs.Report.{output_line}
use Rattle.fwd_report.proofs.counters.push_output.Goals as goal

pub returns : goal.returns
unfolding output_line
returns c =
    rw (c.in_ok-extend_from_slice-3.ensures.ok, c.in_ok-push_count-6.ensures, c.in_ok-push_count-5.ensures, c.in_ok-push_count-4.ensures, c.in_ok-push_count-3.ensures, c.in_ok-push_count-2.ensures, c.in_ok-push_count.ensures, c.in_ok-extend_from_slice-2.ensures.ok, c.in_ok-extend_from_slice.ensures.ok)
    (simp append_assoc refl)
