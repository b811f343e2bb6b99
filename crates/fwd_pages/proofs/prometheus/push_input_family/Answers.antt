use Rattle.std.proofs.Common.{append_assoc, refl}
use Rattle.fwd_pages.specs.Pages.{input_family}
use Rattle.fwd_pages.proofs.prometheus.push_input_family.Goals as goal

pub returns : goal.returns
unfolding input_family
returns c = rw (c.in_ok-push_input_samples.ensures, c.in_ok-push_family.ensures, c.name.ensures) (simp append_assoc refl)
