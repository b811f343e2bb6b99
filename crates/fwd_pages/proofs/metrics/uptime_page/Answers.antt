use Rattle.std.proofs.Common.{append_assoc, refl}
use Rattle.fwd_pages.specs.Pages.{uptime_of}
use Rattle.fwd_pages.proofs.metrics.uptime_page.Goals as goal

pub returns : goal.returns
unfolding uptime_of
returns c = rw (c.in_ok-extend_from_slice.ensures.ok, c.in_ok-push_count.ensures, c.new-text.ensures) (simp append_assoc refl)
