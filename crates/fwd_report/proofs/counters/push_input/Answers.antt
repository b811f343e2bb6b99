use Rattle.std.proofs.Common.{append_assoc, refl}
use Rattle.fwd_report.specs.Report.{input_line}
use Rattle.fwd_report.proofs.counters.push_input.Goals as goal

pub returns : goal.returns
unfolding input_line
returns c =
    rw (c.in_ok-extend_from_slice-3.ensures.ok, c.in_ok-push_count-3.ensures, c.in_ok-push_count-2.ensures, c.in_ok-push_count.ensures, c.in_ok-extend_from_slice-2.ensures.ok, c.in_ok-extend_from_slice.ensures.ok)
    (simp append_assoc refl)
