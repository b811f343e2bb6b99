-- A stream has one split into parts and a rest.
use Rattle.std.proofs.Common.{◌≡◌, ℕ, ◌∙◌, sym, ap, cond, eqb, Bool, true, false, List, [], ◌∷◌, ◌++◌, refl, arith}
use Rattle.std.proofs.lemmas.List.{append_assoc}
use Rattle.std.proofs.lemmas.Bool.Decides.{nat_tests}
use Rattle.std.specs.List.{flat_map, AllByRecursion}
use Rattle.fwd_frames.specs.Lines.{has_feed, prepend_to_first, ended_parts, rest, IsSplit}
use Rattle.fwd_frames.proofs.StreamSplit.{ended_parts-none, rest-none, ended_parts-some, ended_parts-feed, rest-feed}

-- the parts, with a line feed after each
abbrev joined : List (List ℕ) → List ℕ
joined parts = flat_map (λ part. part ++ 10 ∷ []) parts

whole_by : (b : ℕ) (s : List ℕ) (x y : Bool) → eqb b 10 ≡ x → has_feed s ≡ y → s ≡ joined (ended_parts s) ++ rest s → b ∷ s ≡ joined (ended_parts (b ∷ s)) ++ rest (b ∷ s)
whole_by b s true y e f again =
    let feed : b ≡ 10 = grind (arith, nat_tests) in
    rw e (rw feed (ap (λ t. 10 ∷ t) again))
whole_by b s false true e f again =
    let some = ended_parts-some s f in
    let split : s ≡ joined (some.0 ∷ some.1) ++ rest s = rw some.2 at again in
    rw (e, f, some.2) (ap (λ t. b ∷ t) split)
whole_by b s false false e f again = rw (e, f, ended_parts-none s f) refl

whole : (s : List ℕ) → s ≡ joined (ended_parts s) ++ rest s
whole [] = refl
whole (b ∷ s) = whole_by b s _ _ refl refl (whole s)

no_feed-prepend_to_first : (b : ℕ) (parts : List (List ℕ)) → eqb b 10 ≡ false → AllByRecursion (λ part. has_feed part ≡ false) parts → AllByRecursion (λ part. has_feed part ≡ false) (prepend_to_first b parts)
no_feed-prepend_to_first b [] e h = h
no_feed-prepend_to_first b (part ∷ parts) e h = (rw e h.0, h.1)

no_feed_by : (b : ℕ) (s : List ℕ) (x : Bool) → eqb b 10 ≡ x → AllByRecursion (λ part. has_feed part ≡ false) (ended_parts s) → AllByRecursion (λ part. has_feed part ≡ false) (ended_parts (b ∷ s))
no_feed_by b s true e again = rw e (refl, again)
no_feed_by b s false e again = rw e (no_feed-prepend_to_first b (ended_parts s) e again)

no_feed : (s : List ℕ) → AllByRecursion (λ part. has_feed part ≡ false) (ended_parts s)
no_feed [] = tt
no_feed (b ∷ s) = no_feed_by b s _ refl (no_feed s)

no_feed_left_by : (b : ℕ) (s : List ℕ) (x : Bool) → has_feed (b ∷ s) ≡ x → has_feed (rest s) ≡ false → has_feed (rest (b ∷ s)) ≡ false
no_feed_left_by b s true e again = ap (λ x. has_feed (cond x (rest s) (b ∷ s))) e ∙ again
no_feed_left_by b s false e again = ap (λ x. has_feed (cond x (rest s) (b ∷ s))) e ∙ e

no_feed_left : (s : List ℕ) → has_feed (rest s) ≡ false
no_feed_left [] = refl
no_feed_left (b ∷ s) = no_feed_left_by b s _ refl (no_feed_left s)

pub IsSplit-of_stream : (s : List ℕ) → IsSplit s (ended_parts s) (rest s)
IsSplit-of_stream s = record { whole = whole s; no_feed = no_feed s; no_feed_left = no_feed_left s }

parts-joined : (parts : List (List ℕ)) (left : List ℕ) → AllByRecursion (λ part. has_feed part ≡ false) parts → has_feed left ≡ false → (ended_parts (joined parts ++ left) ≡ parts) × (rest (joined parts ++ left) ≡ left)
parts-joined [] left h k = (ended_parts-none left k, rest-none left k)
parts-joined (part ∷ parts) left h k =
    let again = parts-joined parts left h.1 k in
    let split : joined (part ∷ parts) ++ left ≡ part ++ 10 ∷ (joined parts ++ left) = simp append_assoc in (
      ap ended_parts split ∙ ended_parts-feed part (joined parts ++ left) ∙ rw (ended_parts-none part h.0, rest-none part h.0, again.0) refl,
      ap rest split ∙ rest-feed part (joined parts ++ left) ∙ again.1,
    )

pub IsSplit-only : (s : List ℕ) (parts : List (List ℕ)) (left : List ℕ) → IsSplit s parts left → (parts ≡ ended_parts s) × (left ≡ rest s)
IsSplit-only s parts left h =
    let found = parts-joined parts left h.no_feed h.no_feed_left in
    (sym (ap ended_parts h.whole ∙ found.0), sym (ap rest h.whole ∙ found.1))
