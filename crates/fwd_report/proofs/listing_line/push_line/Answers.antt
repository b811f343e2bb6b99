use Rattle.std.proofs.Common.{◌≡◌, ◌++◌, OnOk, codes, List, ℕ, append_assoc, refl, subst}
use Rattle.fwd_report.specs.Listing.{line_text}
use Rattle.fwd_report.proofs.listing_line.push_line.Goals as goal

pub returns : goal.returns
unfolding line_text
returns c =
    let same : c.push_seen.new.text ++ codes "\n" ≡ c.args.text.now ++ line_text c.args.file.now =
    rw (c.in_ok-push_seen.ensures, c.in_ok-extend_from_slice-2.ensures.ok, c.as_slice-2.ensures, c.in_ok-push.ensures.ok, c.in_ok-extend_from_slice.ensures.ok, c.as_slice.ensures) (simp append_assoc refl) in
    subst (λ (t : List ℕ). OnOk c.push-2.result (c.push-2.new.self ≡ t)) same c.push-2.ensures.ok
