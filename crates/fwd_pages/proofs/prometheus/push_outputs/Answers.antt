use Rattle.std.proofs.Common.{append_assoc, refl}
use Rattle.fwd_pages.specs.Pages.{output_families}
use Rattle.fwd_pages.proofs.prometheus.push_outputs.Goals as goal

pub returns : goal.returns
unfolding output_families
returns c = rw (c.in_ok-push_output_family-6.ensures, c.in_ok-push_output_family-5.ensures, c.in_ok-push_output_family-4.ensures, c.in_ok-push_output_family-3.ensures, c.in_ok-push_output_family-2.ensures, c.in_ok-push_output_family.ensures) (simp append_assoc refl)
