-- Sorted names, each once.
use Rattle.std.proofs.Common.{ℕ, List, All, ◌↔◌}
use Rattle.std.specs.Str.{bytes_eq}
use Rattle.std.proofs.lemmas.List.Filters.{All-dedup}
use Rattle.std.proofs.lemmas.List.Kept.{IsStrictlySortedBy-dedup, Contains-dedup, Contains-from_dedup}
use Rattle.std.proofs.lemmas.List.Sorted.{All-permutation, Contains-permutation, IsPermutation-sym}
use Rattle.std.proofs.lemmas.Slice.Eq.{bytes_eq-Decides}
use Rattle.std.proofs.lemmas.Cmp.{nat_list_cmp_total, nat_list_eq_equiv}
use Rattle.std.specs.Cmp.Lexicographic.{slice_cmp, texts_ties}
use Rattle.std.specs.Ordering.{nat_cmp}
use Rattle.std.specs.List.{dedup, Contains}
use Rattle.std.specs.List.Sorted.{IsPermutation, IsSorted}
use Rattle.fwd_outside.specs.Disk.{IsFileName, IsListing}

pub sorted_names : (all sorted : List (List ℕ)) → All IsFileName all → IsPermutation all sorted → IsSorted (slice_cmp nat_cmp) sorted → IsListing (dedup bytes_eq sorted)
sorted_names all sorted names moved order =
    record { each = All-dedup bytes_eq IsFileName sorted (All-permutation IsFileName all sorted moved names); sorted = IsStrictlySortedBy-dedup nat_list_cmp_total texts_ties sorted order }

-- they are the names that there were
pub same_names : (all sorted : List (List ℕ)) → IsPermutation all sorted → (name : List ℕ) → Contains (dedup bytes_eq sorted) name ↔ Contains all name
same_names all sorted moved name = (
  λ there. Contains-permutation sorted all name (IsPermutation-sym all sorted moved) (Contains-from_dedup bytes_eq sorted name there),
  λ here. Contains-dedup nat_list_eq_equiv (λ x y. (bytes_eq-Decides x y).0) sorted name (Contains-permutation all sorted name moved here),
)
