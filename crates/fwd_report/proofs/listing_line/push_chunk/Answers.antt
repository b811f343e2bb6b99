use Rattle.std.proofs.Common.{◌≡◌, ◌++◌, OnOk, List, ℕ, append_assoc, refl, subst}
use Rattle.std.specs.List.{flat_map}
use Rattle.fwd_report.specs.Listing.{done_text, chunk_text}
use Rattle.fwd_report.proofs.listing_line.push_chunk.Goals as goal

pub returns : goal.returns
unfolding chunk_text
returns c =
    let same : c.push_count-3.new.text ++ flat_map done_text c.args.brief.now.done ≡ c.args.text.now ++ chunk_text c.args.brief.now =
    rw (c.in_ok-push_count-3.ensures, c.in_ok-push_count-2.ensures, c.in_ok-push_count.ensures, c.in_ok-push_quoted.ensures, c.as_slice.ensures, c.in_ok-extend_from_slice.ensures.ok) (simp append_assoc refl) in
    subst (λ (t : List ℕ). OnOk c.push_done.result (c.push_done.new.text ≡ t)) same c.push_done.ensures
