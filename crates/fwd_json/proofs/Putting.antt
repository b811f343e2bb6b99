-- Putting members into sorted pairs.
use Rattle.std.proofs.Common.{◌≡◌, ℕ, zero, suc, ◌+◌, ◌<◌, ◌≤◌, List, [], ◌∷◌, length, set, slice_get, Some, Ordering, Less, Equal, Greater, nat_cmp, refl, sym, ap, ◌∙◌, inl, inr, arith}
use Rattle.std.proofs.lemmas.Bool.{cases_lt}
use Rattle.std.proofs.lemmas.Cmp.{nat_list_cmp_total}
use Rattle.std.specs.Cmp.Lexicographic.{slice_cmp}
use Rattle.std.specs.List.{insert}
use Rattle.std.specs.Ordering.{match_ordering, ordering_reverse}
use Rattle.serde_json.specs.Data.{Data, Members, no_members, member, put}
use Rattle.fwd_value.specs.Val.{Val, text}
use Rattle.fwd_json.specs.declared.floats.Floats.TheVariants.{Numbers}
use Rattle.fwd_json.specs.LinePairs.{value_of, pairs_of}
use Rattle.fwd_json.specs.PutPair.{key_at, Rises, put_pair}

-- ---- the place of a key

pub put_inserts : (k : List ℕ) (v : Val) (ps : List (Val × Val)) (i : ℕ) → i ≤ length ps → ((j : ℕ) → j < i → slice_cmp nat_cmp k (key_at ps j) ≡ Greater)
    → (i < length ps → slice_cmp nat_cmp k (key_at ps i) ≡ Less) → put_pair k v ps ≡ insert ps i (text k, v)
put_inserts k v [] zero le below here = refl
put_inserts k v [] (suc i) le below here = absurd (omega arith)
put_inserts k v (p ∷ ps) zero le below here = rw (here (omega arith)) refl
put_inserts k v (p ∷ ps) (suc i) le below here =
    rw (below 0 (omega arith)) (ap (λ (t : List (Val × Val)). p ∷ t) (put_inserts k v ps i (omega arith) (λ j lt. below (suc j) (omega arith)) (λ lt. here (omega arith))))

pub put_sets : (k : List ℕ) (v : Val) (ps : List (Val × Val)) (i : ℕ) (key former : Val) → slice_get ps i ≡ Some (key, former) → ((j : ℕ) → j < i → slice_cmp nat_cmp k (key_at ps j) ≡ Greater)
    → slice_cmp nat_cmp k (key_at ps i) ≡ Equal → put_pair k v ps ≡ set ps i (key, v)
put_sets k v [] i key former there below here = absurd (cc)
put_sets k v (p ∷ ps) zero key former there below here =
    let same : p ≡ (key, former) = cc in
    rw here (ap (λ (q : Val × Val). (q.0, v) ∷ ps) same)
put_sets k v (p ∷ ps) (suc i) key former there below here =
    rw (below 0 (omega arith)) (ap (λ (t : List (Val × Val)). p ∷ t) (put_sets k v ps i key former there (λ j lt. below (suc j) (omega arith)) here))

pub less_left : (o : Ordering) → (o ≡ Greater → ⊥) → (o ≡ Equal → ⊥) → o ≡ Less
less_left Less above same = refl
less_left Equal above same = absurd (same refl)
less_left Greater above same = absurd (above refl)

less_back : (a b : List ℕ) → slice_cmp nat_cmp a b ≡ Greater → slice_cmp nat_cmp b a ≡ Less
less_back a b e = nat_list_cmp_total.antisymm b a ∙ ap ordering_reverse e

greater_back : (a b : List ℕ) → slice_cmp nat_cmp a b ≡ Less → slice_cmp nat_cmp b a ≡ Greater
greater_back a b e = nat_list_cmp_total.antisymm b a ∙ ap ordering_reverse e

higher : (a b c : List ℕ) → slice_cmp nat_cmp a b ≡ Greater → slice_cmp nat_cmp b c ≡ Greater → slice_cmp nat_cmp a c ≡ Greater
higher a b c ab bc = greater_back c a (nat_list_cmp_total.trans c b a (less_back b c bc) (less_back a b ab))

-- a key above that at an index is above those before it
pub above_all : (ps : List (Val × Val)) (k : List ℕ) (m : ℕ) → Rises ps → m < length ps → slice_cmp nat_cmp k (key_at ps m) ≡ Greater → (j : ℕ) → j < m + 1 → slice_cmp nat_cmp k (key_at ps j) ≡ Greater
above_all ps k m rises lt above j le = elim (cases_lt j m) [
  | inl less ↦ higher k (key_at ps m) (key_at ps j) above (rises j m less lt)
  | inr more ↦ (let same : m ≡ j = omega arith in ap (λ (i : ℕ). slice_cmp nat_cmp k (key_at ps i)) (sym same) ∙ above)
]

-- ---- members

pairs_of-match_ordering : (o : Ordering) (a b c : Members) → pairs_of Numbers (match_ordering o a b c) ≡ match_ordering o (pairs_of Numbers a) (pairs_of Numbers b) (pairs_of Numbers c)
pairs_of-match_ordering Less a b c = refl
pairs_of-match_ordering Equal a b c = refl
pairs_of-match_ordering Greater a b c = refl

pub pairs_of-put : (k : List ℕ) (d : Data) (ms : Members) → pairs_of Numbers (put k d ms) ≡ put_pair k (value_of Numbers d) (pairs_of Numbers ms)
pairs_of-put k d no_members = refl
pairs_of-put k d (member l e ms) = pairs_of-match_ordering (slice_cmp nat_cmp k l) _ _ _ ∙ rw (pairs_of-put k d ms)

abbrev AllAbove : List ℕ → Members → Type 0
AllAbove k no_members = Unit {0}
AllAbove k (member l d ms) = (slice_cmp nat_cmp l k ≡ Greater) × AllAbove k ms

-- each key is above those before it
abbrev pub IsSorted : Members → Type 0
IsSorted no_members = Unit {0}
IsSorted (member k d ms) = AllAbove k ms × IsSorted ms

above_lower : (k l : List ℕ) (ms : Members) → slice_cmp nat_cmp l k ≡ Greater → AllAbove l ms → AllAbove k ms
above_lower k l no_members lk above = tt
above_lower k l (member m d ms) lk above = (higher m l k above.0 lk, above_lower k l ms lk above.1)

above_put_at : (o : Ordering) (j k l : List ℕ) (d e : Data) (ms : Members) → slice_cmp nat_cmp k j ≡ Greater → AllAbove j (member l e ms) → AllAbove j (put k d ms)
    → AllAbove j (match_ordering o (member k d (member l e ms)) (member l d ms) (member l e (put k d ms)))
above_put_at Less j k l d e ms kj above later = (kj, above)
above_put_at Equal j k l d e ms kj above later = above
above_put_at Greater j k l d e ms kj above later = (above.0, later)

above_put : (j k : List ℕ) (d : Data) (ms : Members) → slice_cmp nat_cmp k j ≡ Greater → AllAbove j ms → AllAbove j (put k d ms)
above_put j k d no_members kj above = (kj, tt)
above_put j k d (member l e ms) kj above = above_put_at (slice_cmp nat_cmp k l) j k l d e ms kj above (above_put j k d ms kj above.1)

sorted_put_at : (o : Ordering) (k l : List ℕ) (d e : Data) (ms : Members) → slice_cmp nat_cmp k l ≡ o → IsSorted (member l e ms) → IsSorted (put k d ms)
    → IsSorted (match_ordering o (member k d (member l e ms)) (member l d ms) (member l e (put k d ms)))
sorted_put_at Less k l d e ms is sorted later = let lk = greater_back k l is in ((lk, above_lower k l ms lk sorted.0), sorted)
sorted_put_at Equal k l d e ms is sorted later = sorted
sorted_put_at Greater k l d e ms is sorted later = (above_put l k d ms is sorted.0, later)

pub sorted_put : (k : List ℕ) (d : Data) (ms : Members) → IsSorted ms → IsSorted (put k d ms)
sorted_put k d no_members sorted = (tt, tt)
sorted_put k d (member l e ms) sorted = sorted_put_at (slice_cmp nat_cmp k l) k l d e ms refl sorted (sorted_put k d ms sorted.1)

above_at : (k : List ℕ) (ms : Members) → AllAbove k ms → (j : ℕ) → j < length (pairs_of Numbers ms) → slice_cmp nat_cmp (key_at (pairs_of Numbers ms) j) k ≡ Greater
above_at k no_members above j lt = absurd (omega arith)
above_at k (member l d ms) above zero lt = above.0
above_at k (member l d ms) above (suc j) lt = above_at k ms above.1 j (omega arith)

pub rises : (ms : Members) → IsSorted ms → Rises (pairs_of Numbers ms)
rises no_members sorted i j lt within = absurd (omega arith)
rises (member k d ms) sorted i zero lt within = absurd (omega arith)
rises (member k d ms) sorted zero (suc j) lt within = above_at k ms sorted.0 j (omega arith)
rises (member k d ms) sorted (suc i) (suc j) lt within = rises ms sorted.1 i j (omega arith) (omega arith)
