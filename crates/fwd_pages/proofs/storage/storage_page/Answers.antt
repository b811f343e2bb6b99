use Rattle.std.proofs.Common.{append_assoc, refl}
use Rattle.fwd_pages.specs.Pages.{storage_of}
use Rattle.fwd_pages.proofs.storage.storage_page.Goals as goal

pub returns : goal.returns
unfolding storage_of
returns c = rw (c.in_ok-extend_from_slice-3.ensures.ok, c.in_ok-push_outputs.ensures, c.in_ok-extend_from_slice-2.ensures.ok, c.in_ok-push_inputs.ensures, c.in_ok-extend_from_slice.ensures.ok, c.in_ok-push_totals.ensures, c.new-text.ensures, c.as_slice.ensures, c.as_slice-2.ensures) (simp append_assoc refl)
