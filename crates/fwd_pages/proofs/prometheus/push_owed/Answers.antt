use Rattle.std.proofs.Common.{append_assoc, refl}
use Rattle.fwd_pages.specs.Pages.{owed_family}
use Rattle.fwd_pages.proofs.prometheus.push_owed.Goals as goal

pub returns : goal.returns
unfolding owed_family
returns c = rw (c.in_ok-push_owed_samples.ensures, c.in_ok-push_family.ensures) (simp append_assoc refl)
