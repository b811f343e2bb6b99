use Rattle.std.proofs.Common.{append_assoc, refl}
use Rattle.fwd_pages.specs.Pages.{chunk_totals}
use Rattle.fwd_pages.proofs.storage.push_totals.Goals as goal

pub returns : goal.returns
unfolding chunk_totals
returns c = rw (c.in_ok-extend_from_slice.ensures.ok, c.in_ok-push_count-3.ensures, c.count_rows-2.ensures, c.in_ok-push_count-2.ensures, c.count_rows.ensures, c.in_ok-push_count.ensures, c.len.ensures) (simp append_assoc refl)
