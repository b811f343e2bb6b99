-- The numbers of the open chunks rise.
use Rattle.std.proofs.Common.{◌≡◌, ℕ, zero, suc, ◌<◌, ◌≤◌, ◌==◌, nat_eq, Bool, true, false, not, cond, if◌then◌else◌, List, [], ◌∷◌, ◌++◌, All, drop, Some, refl, sym, ◌∙◌, ap, arith}
use Rattle.std.proofs.lemmas.Bool.Decides.{Decides-eqb}
use Rattle.std.proofs.lemmas.List.Elements.{All-nil, All-cons, All-head, All-tail, All-push, All-filter, All-weaker}
use Rattle.fwd_store.specs.OpenChunk.{Opened, without, first_of, NumbersRise}

abbrev Above : ℕ → Opened → Type 0
Above n o = n < o.chunk

apart : (n m : ℕ) → n < m → nat_eq m n ≡ false
apart n m less = by (nat_eq m n) refl
  where
    by : (b : Bool) → nat_eq m n ≡ b → nat_eq m n ≡ false
    by true is = absurd (omega (arith, less, (Decides-eqb m n).0 is))
    by false is = is

strictly : (n m : ℕ) → n ≤ m → (m ≡ n → ⊥) → n < m
strictly zero zero le other = absurd (other refl)
strictly zero (suc m) le other = omega arith
strictly (suc n) zero le other = absurd (omega (arith, le))
strictly (suc n) (suc m) le other = let less : n < m = strictly n m (omega (arith, le)) (λ is. other (ap suc is)) in omega (arith, less)

-- none has a number that is below all
none_has : (n : ℕ) (os : List Opened) → All (Above n) os → without n os ≡ os
none_has n [] above = refl
none_has n (o ∷ os) above =
    ap (λ (b : Bool). cond (not b) (o ∷ without n os) (without n os)) (apart n o.chunk (All-head (Above n) o os above))
    ∙ ap (λ (l : List Opened). o ∷ l) (none_has n os (All-tail (Above n) o os above))

-- the number of the first is that of no other
pub without_first : (n : ℕ) (os : List Opened) → NumbersRise os → Some n ≡ first_of os → drop 1 os ≡ without n os
without_first n [] rise is = refl
without_first n (o ∷ os) rise is =
    let same : o.chunk ≡ n = cc is in
    sym (ap (λ (b : Bool). cond (not b) (o ∷ without n os) (without n os)) ((Decides-eqb o.chunk n).1 same)
    ∙ none_has n os (All-weaker (Above o.chunk) (Above n) (λ p less. omega (arith, less, same)) os rise.0))

-- a number below that of the first is that of none
pub without_none : (n m : ℕ) (os : List Opened) → NumbersRise os → Some m ≡ first_of os → n ≤ m → (m ≡ n → ⊥) → os ≡ without n os
without_none n m [] rise is le other = refl
without_none n m (o ∷ os) rise is le other =
    let same : o.chunk ≡ m = cc is in
    let less = strictly n m le other in
    sym (none_has n (o ∷ os) (All-cons (Above n) o os (omega (arith, less, same)) (All-weaker (Above o.chunk) (Above n) (λ p more. omega (arith, more, less, same)) os rise.0)))

pub rise_fewer : (os : List Opened) → NumbersRise os → NumbersRise (drop 1 os)
rise_fewer [] rise = tt
rise_fewer (o ∷ os) rise = rise.1

pub rise_without : (n : ℕ) (os : List Opened) → NumbersRise os → NumbersRise (without n os)
rise_without n [] rise = tt
rise_without n (o ∷ os) rise = by (not (o.chunk == n)) (rise_without n os rise.1)
  where
    by : (b : Bool) → NumbersRise (without n os) → NumbersRise (if b then o ∷ without n os else without n os)
    by true rest = (All-filter (λ p. not (p.chunk == n)) (Above o.chunk) os rise.0, rest)
    by false rest = rest

pub rise_more : (os : List Opened) (o : Opened) → NumbersRise os → All (λ p. p.chunk < o.chunk) os → NumbersRise (os ++ o ∷ [])
rise_more [] o rise below = (All-nil (Above o.chunk), tt)
rise_more (p ∷ os) o rise below = (
  All-push (Above p.chunk) os o rise.0 (All-head (λ q. q.chunk < o.chunk) p os below),
  rise_more os o rise.1 (All-tail (λ q. q.chunk < o.chunk) p os below),
)
