-- Maps by number: lists of entries, in rising order.
use Rattle.std.proofs.Common.{◌≡◌, ◌≢◌, ⊎_elim, ℕ, ◌<◌, Bool, true, false, cond, List, [], ◌∷◌, Option, Some, None, Ordering, Less, Equal, Greater, nat_cmp, is_eq, refl, sym, ap, subst, ◌∙◌, arith}
use Rattle.std.specs.Ordering.{match_ordering, MatchOrdering}
use Rattle.std.specs.Cmp.{ranks, unsigned_tied}
use Rattle.std.proofs.lemmas.Bool.{cases_eq, eqb-true, eq-eqb, ne_eqb}
use Rattle.fwd_secure.specs.Handshakes.{at, with_entry, without_entry}

cmp_by : (x y : ℕ) (r : Ordering) → nat_cmp x y ≡ r → MatchOrdering r (x < y) (x ≡ y) (y < x)
cmp_by x y r is = subst (λ (o : Ordering). MatchOrdering o (x < y) (x ≡ y) (y < x)) is (ranks x y)

key_same : (n : ℕ) → is_eq (nat_cmp n n) ≡ true
key_same n = unsigned_tied n n ∙ eq-eqb n n refl

key_other : (q n : ℕ) → q ≢ n → is_eq (nat_cmp q n) ≡ false
key_other q n ne = unsigned_tied q n ∙ ne_eqb q n ne

key_is : (n m : ℕ) → is_eq (nat_cmp n m) ≡ true → n ≡ m
key_is n m is = eqb-true n m (sym (unsigned_tied n m) ∙ is)

-- ---- look-ups

pub at_with_same : {X : Type 0} (n : ℕ) (x : X) (es : List (ℕ × X)) → at n (with_entry n x es) ≡ Some x
at_with_same {X = X} n x [] = ap (λ (b : Bool). cond {A = Option X} b (Some x) None) (key_same n)
at_with_same {X = X} n x (e ∷ es) = by (nat_cmp n e.0) refl (at_with_same n x es)
  where
    by : (r : Ordering) → nat_cmp n e.0 ≡ r → at n (with_entry n x es) ≡ Some x → at n (match_ordering r ((n, x) ∷ e ∷ es) ((e.0, x) ∷ es) (e ∷ with_entry n x es)) ≡ Some x
    by Less is rest = ap (λ (b : Bool). cond {A = Option X} b (Some x) (at n (e ∷ es))) (key_same n)
    by Equal is rest = ap (λ (b : Bool). cond {A = Option X} b (Some x) (at n es)) (ap is_eq is)
    by Greater is rest = ap (λ (b : Bool). cond {A = Option X} b (Some e.1) (at n (with_entry n x es))) (ap is_eq is) ∙ rest

pub at_with_other : {X : Type 0} (q n : ℕ) (x : X) (es : List (ℕ × X)) → q ≢ n → at q (with_entry n x es) ≡ at q es
at_with_other {X = X} q n x [] ne = ap (λ (b : Bool). cond {A = Option X} b (Some x) None) (key_other q n ne)
at_with_other {X = X} q n x (e ∷ es) ne = by (nat_cmp n e.0) refl (at_with_other q n x es ne)
  where
    by : (r : Ordering) → nat_cmp n e.0 ≡ r → at q (with_entry n x es) ≡ at q es → at q (match_ordering r ((n, x) ∷ e ∷ es) ((e.0, x) ∷ es) (e ∷ with_entry n x es)) ≡ at q (e ∷ es)
    by Less is rest = ap (λ (b : Bool). cond {A = Option X} b (Some x) (at q (e ∷ es))) (key_other q n ne)
    by Equal is rest =
        let same : n ≡ e.0 = cmp_by n e.0 Equal is in
        let off : is_eq (nat_cmp q e.0) ≡ false = key_other q e.0 (λ i. ne (i ∙ sym same)) in
        ap (λ (b : Bool). cond {A = Option X} b (Some x) (at q es)) off ∙ sym (ap (λ (b : Bool). cond {A = Option X} b (Some e.1) (at q es)) off)
    by Greater is rest = ap (λ (o : Option X). cond (is_eq (nat_cmp q e.0)) (Some e.1) o) rest

pub at_without_other : {X : Type 0} (q n : ℕ) (es : List (ℕ × X)) → q ≢ n → at q (without_entry n es) ≡ at q es
at_without_other q n [] ne = refl
at_without_other {X = X} q n (e ∷ es) ne = by (is_eq (nat_cmp n e.0)) refl (at_without_other q n es ne)
  where
    by : (b : Bool) → is_eq (nat_cmp n e.0) ≡ b → at q (without_entry n es) ≡ at q es → at q (cond b es (e ∷ without_entry n es)) ≡ at q (e ∷ es)
    by true is rest =
        let same : n ≡ e.0 = key_is n e.0 is in
        sym (ap (λ (b : Bool). cond {A = Option X} b (Some e.1) (at q es)) (key_other q e.0 (λ i. ne (i ∙ sym same))))
    by false is rest = ap (λ (o : Option X). cond (is_eq (nat_cmp q e.0)) (Some e.1) o) rest

-- ---- the order

-- all keys are greater
abbrev pub Over : {X : Type 0} → ℕ → List (ℕ × X) → Type 0
Over n [] = Unit {0}
Over n (e ∷ es) = n < e.0

abbrev pub Rising : {X : Type 0} → List (ℕ × X) → Type 0
Rising [] = Unit {0}
Rising (e ∷ es) = Over e.0 es × Rising es

over_less : {X : Type 0} (m n : ℕ) (es : List (ℕ × X)) → m < n → Over n es → Over m es
over_less m n [] lt over = tt
over_less m n (e ∷ es) lt over = omega (arith, lt, over)

absent : {X : Type 0} (n : ℕ) (es : List (ℕ × X)) → Over n es → Rising es → at n es ≡ None
absent n [] over rising = refl
absent {X = X} n (e ∷ es) over rising =
    ap (λ (b : Bool). cond {A = Option X} b (Some e.1) (at n es)) (key_other n e.0 (λ is. omega (arith, over, is)))
    ∙ absent n es (over_less n e.0 es over rising.0) rising.1

pub at_without_same : {X : Type 0} (n : ℕ) (es : List (ℕ × X)) → Rising es → at n (without_entry n es) ≡ None
at_without_same n [] rising = refl
at_without_same {X = X} n (e ∷ es) rising = by (is_eq (nat_cmp n e.0)) refl (at_without_same n es rising.1)
  where
    by : (b : Bool) → is_eq (nat_cmp n e.0) ≡ b → at n (without_entry n es) ≡ None → at n (cond b es (e ∷ without_entry n es)) ≡ None
    by true is rest = absent n es (subst (λ (m : ℕ). Over m es) (sym (key_is n e.0 is)) rising.0) rising.1
    by false is rest = ap (λ (b : Bool). cond {A = Option X} b (Some e.1) (at n (without_entry n es))) is ∙ rest

-- what is left was there
pub at_without_was : {X : Type 0} (q n : ℕ) (es : List (ℕ × X)) (x : X) → Rising es → at q (without_entry n es) ≡ Some x → at q es ≡ Some x
at_without_was {X = X} q n es x rising is = ⊎_elim same (λ (ne : q ≢ n). sym (at_without_other q n es ne) ∙ is) (cases_eq q n)
  where
    gone : at n (without_entry n es) ≡ Some x → at q es ≡ Some x
    gone i = absurd (none_some (sym (at_without_same n es rising) ∙ i))
      where
        none_some : None ≡ Some x → ⊥
        none_some e = cc

    same : q ≡ n → at q es ≡ Some x
    same e = gone (subst (λ (m : ℕ). at m (without_entry n es) ≡ Some x) e is)

pub at_without_none : {X : Type 0} (q n : ℕ) (es : List (ℕ × X)) → Rising es → at q es ≡ None → at q (without_entry n es) ≡ None
at_without_none q n es rising is =
    ⊎_elim (λ (e : q ≡ n). subst (λ (m : ℕ). at m (without_entry n es) ≡ None) (sym e) (at_without_same n es rising)) (λ (ne : q ≢ n). at_without_other q n es ne ∙ is) (cases_eq q n)

with_over : {X : Type 0} (m n : ℕ) (x : X) (es : List (ℕ × X)) → m < n → Over m es → Over m (with_entry n x es)
with_over m n x [] lt over = lt
with_over m n x (e ∷ es) lt over = by (nat_cmp n e.0)
  where
    by : (r : Ordering) → Over m (match_ordering r ((n, x) ∷ e ∷ es) ((e.0, x) ∷ es) (e ∷ with_entry n x es))
    by Less = lt
    by Equal = over
    by Greater = over

pub with_rising : {X : Type 0} (n : ℕ) (x : X) (es : List (ℕ × X)) → Rising es → Rising (with_entry n x es)
with_rising n x [] rising = (tt, tt)
with_rising n x (e ∷ es) rising = by (nat_cmp n e.0) refl (with_rising n x es rising.1)
  where
    by : (r : Ordering) → nat_cmp n e.0 ≡ r → Rising (with_entry n x es) → Rising (match_ordering r ((n, x) ∷ e ∷ es) ((e.0, x) ∷ es) (e ∷ with_entry n x es))
    by Less is rest = (cmp_by n e.0 Less is, rising)
    by Equal is rest = rising
    by Greater is rest = (with_over e.0 n x es (cmp_by n e.0 Greater is) rising.0, rest)

without_over : {X : Type 0} (m n : ℕ) (es : List (ℕ × X)) → Over m es → Rising es → Over m (without_entry n es)
without_over m n [] over rising = tt
without_over m n (e ∷ es) over rising = by (is_eq (nat_cmp n e.0))
  where
    by : (b : Bool) → Over m (cond b es (e ∷ without_entry n es))
    by true = over_less m e.0 es over rising.0
    by false = over

pub without_rising : {X : Type 0} (n : ℕ) (es : List (ℕ × X)) → Rising es → Rising (without_entry n es)
without_rising n [] rising = tt
without_rising n (e ∷ es) rising = by (is_eq (nat_cmp n e.0)) (without_rising n es rising.1)
  where
    by : (b : Bool) → Rising (without_entry n es) → Rising (cond b es (e ∷ without_entry n es))
    by true rest = rising.1
    by false rest = (without_over e.0 n es rising.0 rising.1, rest)
