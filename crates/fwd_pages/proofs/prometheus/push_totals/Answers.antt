use Rattle.std.proofs.Common.{append_assoc, refl}
use Rattle.fwd_pages.specs.Pages.{total_families}
use Rattle.fwd_pages.proofs.prometheus.push_totals.Goals as goal

pub returns : goal.returns
unfolding total_families
returns c = rw (c.in_ok-push_total-5.ensures, c.in_ok-push_total-4.ensures, c.in_ok-push_total-3.ensures, c.in_ok-push_total-2.ensures, c.in_ok-push_total.ensures) (simp append_assoc refl)
