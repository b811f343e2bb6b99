use Rattle.std.proofs.Common.{append_assoc, refl}
use Rattle.fwd_pages.specs.Pages.{family_line}
use Rattle.fwd_pages.proofs.sample.push_family.Goals as goal

pub returns : goal.returns
unfolding family_line
returns c = rw (c.in_ok-extend_from_slice-5.ensures.ok, c.in_ok-extend_from_slice-4.ensures.ok, c.in_ok-extend_from_slice-3.ensures.ok, c.in_ok-extend_from_slice-2.ensures.ok, c.in_ok-extend_from_slice.ensures.ok) (simp append_assoc refl)
