use Rattle.std.proofs.Common.{append_assoc, refl}
use Rattle.fwd_pages.specs.Pages.{sample_line}
use Rattle.fwd_pages.proofs.sample.push_sample.Goals as goal

pub returns : goal.returns
unfolding sample_line
returns c = rw (c.in_ok-extend_from_slice-4.ensures.ok, c.in_ok-push_count.ensures, c.in_ok-extend_from_slice-3.ensures.ok, c.in_ok-extend_from_slice-2.ensures.ok, c.in_ok-extend_from_slice.ensures.ok) (simp append_assoc refl)
