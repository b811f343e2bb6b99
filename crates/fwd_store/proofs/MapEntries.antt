-- The chunks by number as the entries of a map.
use Rattle.std.proofs.Common.{◌≡◌, ℕ, Bool, true, false, cond, nat_eq, List, [], ◌∷◌, Option, Some, None, refl, sym, ◌∙◌, ap, subst}
use Rattle.std.proofs.lemmas.Bool.{eq-eqb}
use Rattle.std.proofs.lemmas.Bool.Decides.{Decides-eqb}
use Rattle.std.specs.Cmp.{nat_cmp_total, tied_itself}
use Rattle.std.specs.Ordering.{nat_cmp, eq_by_cmp, is_eq}
use Rattle.std.specs.declared.cmp.Ordering.{Ordering}
use Rattle.std.specs.declared.cmp.Ordering.TheVariants.{Less, Equal, Greater}
use Rattle.std.specs.FinMap as map
use Rattle.std.specs.FinMap.Entries.{find}
use Rattle.std.specs.Map.{lookup}
use Rattle.fwd_chunk.specs.declared.kept.Kept.{Kept}
use Rattle.fwd_store.specs.StoreState.{KeptMap}

same_bool : (a b : Bool) → (a ≡ true → b ≡ true) → (b ≡ true → a ≡ true) → a ≡ b
same_bool true b to from = sym (to refl)
same_bool false true to from = from refl
same_bool false false to from = refl

equal : (r : Ordering) → is_eq r ≡ true → r ≡ Equal
equal Less is = absurd (cc is)
equal Equal is = refl
equal Greater is = absurd (cc is)

-- numbers tie if they are equal
pub ties : (q k : ℕ) → eq_by_cmp nat_cmp q k ≡ nat_eq k q
ties q k =
    same_bool (eq_by_cmp nat_cmp q k) (nat_eq k q)
    (λ is. eq-eqb k q (sym (map.nat_cmp-IsAntisymmetric q k (equal (nat_cmp q k) is))))
    (λ is. ap is_eq (subst (λ (n : ℕ). nat_cmp q n ≡ Equal) (sym ((Decides-eqb k q).0 is)) (tied_itself nat_cmp_total q)))

flipped : (q k : ℕ) → nat_eq q k ≡ nat_eq k q
flipped q k = same_bool (nat_eq q k) (nat_eq k q) (λ is. eq-eqb k q (sym ((Decides-eqb q k).0 is))) (λ is. eq-eqb q k (sym ((Decides-eqb k q).0 is)))

pub found : (q : ℕ) (es : List (ℕ × Kept)) → find nat_cmp q es ≡ lookup (nat_eq q) es
found q [] = refl
found q (e ∷ es) =
    ap (λ (b : Bool). cond b (Some e.1) (find nat_cmp q es)) (ties q e.0 ∙ flipped e.0 q)
    ∙ ap (λ (rest : Option Kept). cond (nat_eq q e.0) (Some e.1) rest) (found q es)

pub get_held : (es : List (ℕ × Kept)) (q : ℕ) → map.get (map.from_entries {R = nat_cmp} es) q ≡ lookup (nat_eq q) es
get_held es q = map.get-from_entries nat_cmp_total es q ∙ found q es

-- two lists with the same lookups are the same chunks
pub same_held : (m n : KeptMap) → ((q : ℕ) → map.get m q ≡ map.get n q) → m ≡ n
same_held m n alike = map.same_map nat_cmp_total map.nat_cmp-IsAntisymmetric m n alike

pub get_inserted : (m : KeptMap) (k : ℕ) (v : Kept) (q : ℕ) → map.get (map.insert m k v) q ≡ cond (nat_eq k q) (Some v) (map.get m q)
get_inserted m k v q = map.get-insert nat_cmp_total m k v q ∙ ap (λ (b : Bool). cond b (Some v) (map.get m q)) (ties q k)

pub get_removed : (m : KeptMap) (k q : ℕ) → map.get (map.remove m k) q ≡ cond (nat_eq k q) None (map.get m q)
get_removed m k q = map.get-remove nat_cmp_total m k q ∙ ap (λ (b : Bool). cond b None (map.get m q)) (ties q k)

module _ (old : KeptMap) (es new : List (ℕ × Kept)) (is : map.from_entries {R = nat_cmp} es ≡ old) where
  get_old : (q : ℕ) → lookup (nat_eq q) es ≡ map.get old q
  get_old q = sym (get_held es q) ∙ ap (λ (m : KeptMap). map.get m q) is

  pub put_in : (k : ℕ) (v : Kept) → ((q : ℕ) → lookup (nat_eq q) new ≡ cond (nat_eq k q) (Some v) (lookup (nat_eq q) es)) → map.from_entries {R = nat_cmp} new ≡ map.insert old k v
  put_in k v updates = same_held (map.from_entries new) (map.insert old k v)
      (λ q. get_held new q ∙ updates q ∙ ap (λ (o : Option Kept). cond (nat_eq k q) (Some v) o) (get_old q) ∙ sym (get_inserted old k v q))

  pub taken_out : (k : ℕ) → ((q : ℕ) → lookup (nat_eq q) new ≡ cond (nat_eq k q) None (lookup (nat_eq q) es)) → map.from_entries {R = nat_cmp} new ≡ map.remove old k
  taken_out k updates = same_held (map.from_entries new) (map.remove old k)
      (λ q. get_held new q ∙ updates q ∙ ap (λ (o : Option Kept). cond (nat_eq k q) None o) (get_old q) ∙ sym (get_removed old k q))

  pub as_before : ((q : ℕ) → lookup (nat_eq q) new ≡ lookup (nat_eq q) es) → map.from_entries {R = nat_cmp} new ≡ old
  as_before updates = same_held (map.from_entries new) old (λ q. get_held new q ∙ updates q ∙ get_old q)

-- a chunk that is put in again
pub put_again : (m : KeptMap) (k : ℕ) (v : Kept) → map.get m k ≡ Some v → map.insert m k v ≡ m
put_again m k v is = same_held (map.insert m k v) m (λ q. get_inserted m k v q ∙ by q (nat_eq k q) refl)
  where
    by : (q : ℕ) (b : Bool) → nat_eq k q ≡ b → cond b (Some v) (map.get m q) ≡ map.get m q
    by q true e = sym (ap (λ (n : ℕ). map.get m n) (sym ((Decides-eqb k q).0 e)) ∙ is)
    by q false e = refl

pub get_here : (m : KeptMap) (k : ℕ) (v : Kept) → map.get (map.insert m k v) k ≡ Some v
get_here m k v = get_inserted m k v k ∙ ap (λ (b : Bool). cond b (Some v) (map.get m k)) ((Decides-eqb k k).1 refl)
