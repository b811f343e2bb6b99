use Rattle.std.proofs.Common.{sym, ◌∙◌, ◌↔◌, List, ℕ, subst}
use Rattle.std.specs.List.{Contains}
use Rattle.std.specs.Str.{bytes_eq}
use Rattle.std.proofs.lemmas.List.Filters.{dedup_is}
use Rattle.fwd_outside.specs.Disk.{IsListing}
use Rattle.fwd_live.proofs.Listings.{sorted_names, same_names}
use Rattle.fwd_live.proofs.file_name.listing.Goals as goal

pub returns-clause-sorted : goal.returns-clause-sorted
returns-clause-sorted c =
    let sorted = sorted_names c.args.names.items c.sort.new.self.items c.requires c.in_ok-sort.ensures.permutation c.in_ok-sort.ensures.sorted in
    let is = dedup_is bytes_eq c.sort.new.self.items c.dedup.new.self.items c.dedup.ensures.filtered in
    subst IsListing (sym (c.from_vec.ensures ∙ is)) sorted

pub returns-clause-same : goal.returns-clause-same
returns-clause-same c =
    let kept = same_names c.args.names.items c.sort.new.self.items c.in_ok-sort.ensures.permutation in
    let is = dedup_is bytes_eq c.sort.new.self.items c.dedup.new.self.items c.dedup.ensures.filtered in
    subst (λ (l : List (List ℕ)). (name : List ℕ) → Contains l name ↔ Contains c.args.names.items name) (sym (c.from_vec.ensures ∙ is)) kept
