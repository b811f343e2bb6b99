-- Maps of chunks by number, after an insertion and after a removal.
use Rattle.std.proofs.Common.{◌≡◌, ℕ, Bool, true, false, cond, nat_eq, Some, None, refl, sym, ◌∙◌, ap, subst}
use Rattle.std.proofs.lemmas.Bool.{eq-eqb}
use Rattle.std.proofs.lemmas.Bool.Decides.{Decides-eqb}
use Rattle.std.specs.Cmp.{nat_cmp_total, tied_itself}
use Rattle.std.specs.Ordering.{nat_cmp, eq_by_cmp, is_eq}
use Rattle.std.specs.declared.cmp.Ordering.{Ordering}
use Rattle.std.specs.declared.cmp.Ordering.TheVariants.{Less, Equal, Greater}
use Rattle.std.specs.FinMap as map
use Rattle.fwd_chunk.specs.declared.kept.Kept.{Kept}
use Rattle.fwd_store.specs.StoreState.{KeptMap}

pub same_bool : (a b : Bool) → (a ≡ true → b ≡ true) → (b ≡ true → a ≡ true) → a ≡ b
same_bool true b to from = sym (to refl)
same_bool false true to from = from refl
same_bool false false to from = refl

equal : (r : Ordering) → is_eq r ≡ true → r ≡ Equal
equal Less is = absurd (cc is)
equal Equal is = refl
equal Greater is = absurd (cc is)

-- numbers compare as equal if they are equal
ties : (q k : ℕ) → eq_by_cmp nat_cmp q k ≡ nat_eq k q
ties q k =
    same_bool (eq_by_cmp nat_cmp q k) (nat_eq k q)
    (λ is. eq-eqb k q (sym (map.nat_cmp-IsAntisymmetric q k (equal (nat_cmp q k) is))))
    (λ is. ap is_eq (subst (λ (n : ℕ). nat_cmp q n ≡ Equal) (sym ((Decides-eqb k q).0 is)) (tied_itself nat_cmp_total q)))

pub flipped : (q k : ℕ) → nat_eq q k ≡ nat_eq k q
flipped q k = same_bool (nat_eq q k) (nat_eq k q) (λ is. eq-eqb k q (sym ((Decides-eqb q k).0 is))) (λ is. eq-eqb q k (sym ((Decides-eqb k q).0 is)))

pub same_number : (q k : ℕ) → nat_eq q k ≡ true → q ≡ k
same_number q k is = (Decides-eqb q k).0 is

pub get_inserted : (m : KeptMap) (k : ℕ) (v : Kept) (q : ℕ) → map.get (map.insert m k v) q ≡ cond (nat_eq k q) (Some v) (map.get m q)
get_inserted m k v q = map.get-insert nat_cmp_total m k v q ∙ ap (λ (b : Bool). cond b (Some v) (map.get m q)) (ties q k)

pub get_removed : (m : KeptMap) (k q : ℕ) → map.get (map.remove m k) q ≡ cond (nat_eq k q) None (map.get m q)
get_removed m k q = map.get-remove nat_cmp_total m k q ∙ ap (λ (b : Bool). cond b None (map.get m q)) (ties q k)
