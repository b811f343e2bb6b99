use Rattle.std.proofs.Common.{append_assoc, refl}
use Rattle.fwd_report.specs.Report.{report_of}
use Rattle.fwd_report.proofs.sections.report.Goals as goal

pub returns : goal.returns
unfolding report_of
returns c =
    rw (c.in_ok-push_owed.ensures, c.in_ok-push_totals.ensures, c.in_ok-push_outputs.ensures, c.in_ok-push_inputs.ensures, c.new-text.ensures, c.as_slice.ensures, c.as_slice-2.ensures, c.as_slice-3.ensures, c.as_slice-4.ensures, c.as_slice-5.ensures)
    (simp append_assoc refl)
