-- The names in a folder have one listing.
use Rattle.std.proofs.Common.{◌≡◌, ℕ, Bool, true, false, IsTrue, List, Contains, refl, sym, subst}
use Rattle.std.specs.BTreeSet.{BTreeSet}
use Rattle.std.specs.Cmp.Lexicographic.{slice_cmp, nat_list_cmp_total}
use Rattle.std.specs.List.Sorted.{IsStrictlySortedBy}
use Rattle.std.specs.Ordering.{nat_cmp}
use Rattle.std.proofs.lemmas.List.Elements.{All-contains}
use Rattle.std.proofs.lemmas.Map.Lookups.{btree_set_from_contains, exact_bytes}
use Rattle.std.proofs.lemmas.Map.Views.{btree_set_contains_iff}
use Rattle.fwd_outside.specs.File.{FileState}
use Rattle.fwd_outside.specs.DiskStates.{Files, IsUnder, AreNamesIn}
use Rattle.fwd_outside.specs.Disk.{IsFileName, IsListing}

same_yes : (a b : Bool) → (IsTrue a → IsTrue b) → (IsTrue b → IsTrue a) → a ≡ b
same_yes true true to from = refl
same_yes true false to from = absurd (cc (to refl))
same_yes false true to from = absurd (cc (from refl))
same_yes false false to from = refl

-- lists in order with the same members are equal
one_order : (xs ys : List (List ℕ)) → IsStrictlySortedBy (slice_cmp nat_cmp) xs → IsStrictlySortedBy (slice_cmp nat_cmp) ys → ((q : List ℕ) → Contains xs q → Contains ys q) → ((q : List ℕ) → Contains ys q → Contains xs q)
    → xs ≡ ys
one_order xs ys first second to from =
    let one : BTreeSet (List ℕ) = record { keys = xs } in
    let other : BTreeSet (List ℕ) = record { keys = ys } in
    let in_one = btree_set_contains_iff nat_list_cmp_total exact_bytes one in
    let in_other = btree_set_contains_iff nat_list_cmp_total exact_bytes other in
    btree_set_from_contains nat_list_cmp_total one other first second
    (λ q. same_yes _ _ (λ yes. (in_other q).1 (to q ((in_one q).0 yes))) (λ yes. (in_one q).1 (from q ((in_other q).0 yes)))) exact_bytes

-- a name in the first is in the second
moves : (folder : List ℕ) (files files2 : Files) → ((name : List ℕ) → files name ≡ files2 name) → (names names2 : List (List ℕ)) → IsListing names → AreNamesIn folder names files → AreNamesIn folder names2 files2
    → (q : List ℕ) → Contains names q → Contains names2 q
moves folder files files2 same names names2 listing are are2 q has =
    let at = All-contains (λ (name : List ℕ). (file : List ℕ) × IsTrue (files file).there × IsUnder folder name file) names q are.each has in
    are2.all q at.0 (All-contains IsFileName names q listing.each has) (subst (λ (f : FileState). IsTrue f.there) (same at.0) at.1) at.2

pub one_listing : (folder : List ℕ) (files files2 : Files) → ((name : List ℕ) → files2 name ≡ files name) → (names names2 : List (List ℕ)) → IsListing names → IsListing names2 → AreNamesIn folder names files → AreNamesIn folder names2 files2
    → names2 ≡ names
one_listing folder files files2 same names names2 listing listing2 are are2 =
    one_order names2 names listing2.sorted listing.sorted (moves folder files2 files same names2 names listing2 are2 are) (moves folder files files2 (λ name. sym (same name)) names names2 listing are are2)
