use Rattle.std.proofs.Common.{append_assoc, refl}
use Rattle.fwd_pages.specs.Pages.{input_chunks}
use Rattle.fwd_pages.proofs.storage.push_input.Goals as goal

pub returns : goal.returns
unfolding input_chunks
returns c = rw (c.in_ok-extend_from_slice-3.ensures.ok, c.in_ok-push_count-3.ensures, c.count_rows-3.ensures, c.in_ok-push_count-2.ensures, c.count_rows-2.ensures, c.in_ok-push_count.ensures, c.count_rows.ensures, c.in_ok-extend_from_slice-2.ensures.ok, c.truth_word.ensures, c.is_set.ensures, c.in_ok-extend_from_slice.ensures.ok, c.in_ok-push_name.ensures) (simp append_assoc refl)
