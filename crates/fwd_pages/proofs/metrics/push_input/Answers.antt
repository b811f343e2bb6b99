use Rattle.std.proofs.Common.{append_assoc, refl}
use Rattle.fwd_pages.specs.Pages.{input_entry}
use Rattle.fwd_pages.proofs.metrics.push_input.Goals as goal

pub returns : goal.returns
unfolding input_entry
returns c = rw (c.in_ok-extend_from_slice.ensures.ok, c.in_ok-push_count-3.ensures, c.in_ok-push_count-2.ensures, c.in_ok-push_count.ensures, c.in_ok-push_name.ensures) (simp append_assoc refl)
