use Rattle.std.proofs.Common.{append_assoc, refl}
use Rattle.fwd_pages.specs.Pages.{total_lines}
use Rattle.fwd_pages.proofs.sample.push_total.Goals as goal

pub returns : goal.returns
unfolding total_lines
returns c = rw (c.in_ok-extend_from_slice-2.ensures.ok, c.in_ok-push_count.ensures, c.in_ok-extend_from_slice.ensures.ok, c.in_ok-push_family.ensures) (simp append_assoc refl)
