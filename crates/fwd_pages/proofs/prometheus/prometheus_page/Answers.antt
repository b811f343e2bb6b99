use Rattle.std.proofs.Common.{append_assoc, refl}
use Rattle.fwd_pages.specs.Pages.{prometheus_of}
use Rattle.fwd_pages.proofs.prometheus.prometheus_page.Goals as goal

pub returns : goal.returns
unfolding prometheus_of
returns c = rw (c.in_ok-push_totals.ensures, c.in_ok-push_owed.ensures, c.in_ok-push_outputs.ensures, c.in_ok-push_inputs.ensures, c.new-text.ensures, c.as_slice.ensures, c.as_slice-2.ensures, c.as_slice-3.ensures, c.as_slice-4.ensures, c.as_slice-5.ensures) (simp append_assoc refl)
