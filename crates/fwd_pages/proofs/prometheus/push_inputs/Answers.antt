use Rattle.std.proofs.Common.{append_assoc, refl}
use Rattle.fwd_pages.specs.Pages.{input_families}
use Rattle.fwd_pages.proofs.prometheus.push_inputs.Goals as goal

pub returns : goal.returns
unfolding input_families
returns c = rw (c.in_ok-push_input_family-3.ensures, c.in_ok-push_input_family-2.ensures, c.in_ok-push_input_family.ensures) (simp append_assoc refl)
