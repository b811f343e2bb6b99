use Rattle.std.proofs.Common.{append_assoc, refl}
use Rattle.fwd_pages.specs.Pages.{output_entry}
use Rattle.fwd_pages.proofs.metrics.push_output.Goals as goal

pub returns : goal.returns
unfolding output_entry
returns c = rw (c.in_ok-extend_from_slice.ensures.ok, c.in_ok-push_count-6.ensures, c.in_ok-push_count-5.ensures, c.in_ok-push_count-4.ensures, c.in_ok-push_count-3.ensures, c.in_ok-push_count-2.ensures, c.in_ok-push_count.ensures, c.in_ok-push_name.ensures) (simp append_assoc refl)
