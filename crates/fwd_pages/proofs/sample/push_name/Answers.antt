use Rattle.std.proofs.Common.{append_assoc, refl}
use Rattle.fwd_pages.specs.Pages.{name_start}
use Rattle.fwd_pages.proofs.sample.push_name.Goals as goal

pub returns : goal.returns
unfolding name_start
returns c = rw (c.in_ok-extend_from_slice-3.ensures.ok, c.in_ok-extend_from_slice-2.ensures.ok, c.in_ok-extend_from_slice.ensures.ok, c.in_ok-push_comma.ensures) (simp append_assoc refl)
