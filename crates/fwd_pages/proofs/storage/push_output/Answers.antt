use Rattle.std.proofs.Common.{append_assoc, refl}
use Rattle.fwd_pages.specs.Pages.{output_chunks}
use Rattle.fwd_pages.proofs.storage.push_output.Goals as goal

pub returns : goal.returns
unfolding output_chunks
returns c = rw (c.in_ok-extend_from_slice.ensures.ok, c.in_ok-push_count.ensures, c.count_rows-owed.ensures, c.in_ok-push_name.ensures) (simp append_assoc refl)
