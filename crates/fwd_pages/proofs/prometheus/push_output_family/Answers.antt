use Rattle.std.proofs.Common.{append_assoc, refl}
use Rattle.fwd_pages.specs.Pages.{output_family}
use Rattle.fwd_pages.proofs.prometheus.push_output_family.Goals as goal

pub returns : goal.returns
unfolding output_family
returns c = rw (c.in_ok-push_output_samples.ensures, c.in_ok-push_family.ensures, c.name.ensures) (simp append_assoc refl)
