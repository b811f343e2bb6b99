-- Files found by their names.
use Rattle.std.proofs.Common.{◌≡◌, ◌≢◌, ℕ, Bool, true, false, cond, if◌then◌else◌, Option, Some, List, [], ◌∷◌, map, refl, sym, ◌∙◌, ap}
use Rattle.std.specs.Prelude.{Vec}
use Rattle.std.specs.Cmp.Lexicographic.{nat_list_eq_equiv}
use Rattle.std.specs.Map.{lookup, IsKeyTest, AreApart, KeepsOthers}
use Rattle.std.specs.Str.{bytes_eq}
use Rattle.std.proofs.lemmas.Slice.Eq.{bytes_eq-Decides}
use Rattle.fwd_disk_mem.specs.FileTable.{file_of, found, SetAt}

-- on a name, and on another one
pub on_name : {X : Type 0} (n m : List ℕ) (x y : X) → n ≡ m → (if bytes_eq n m then x else y) ≡ x
on_name n m x y is = ap (λ (b : Bool). if b then x else y) ((bytes_eq-Decides n m).1 is)

pub off_name : {X : Type 0} (n m : List ℕ) (x y : X) → n ≢ m → (if bytes_eq n m then x else y) ≡ y
off_name {X} n m x y ne = off (bytes_eq n m) (bytes_eq-Decides n m).0
  where
    off : (b : Bool) → (b ≡ true → n ≡ m) → (if b then x else y) ≡ y
    off true is = absurd (ne (is refl))
    off false is = refl

pub not_equal : (n m : List ℕ) → bytes_eq n m ≡ false → n ≢ m
not_equal n m is e = let no : true ≡ false = sym ((bytes_eq-Decides n m).1 e) ∙ is in absurd (cc no)

-- a file is found by its name as its entry is
pub found_entry : {Z : Type 0} (entries : List (Vec ℕ Z × List ℕ)) (name : List ℕ) → found (map file_of entries) name ≡ lookup (λ k. bytes_eq name k.items) entries
found_entry [] name = refl
found_entry {Z} (entry ∷ entries) name = by (bytes_eq entry.0.items name) (bytes_eq name entry.0.items) (nat_list_eq_equiv.symm entry.0.items name) (found_entry entries name)
  where
    by : (a b : Bool) → a ≡ b → found (map file_of entries) name ≡ lookup (λ (k : Vec ℕ Z). bytes_eq name k.items) entries
        → (if a then Some entry.1 else found (map file_of entries) name) ≡ cond b (Some entry.1) (lookup (λ (k : Vec ℕ Z). bytes_eq name k.items) entries)
    by true true e rest = refl
    by true false e rest = absurd (cc e)
    by false true e rest = absurd (cc e)
    by false false e rest = rest

module _ {Z : Type 0} where
  abbrev pub same_key : Vec ℕ Z → Vec ℕ Z → Bool
  same_key x y = bytes_eq x.items y.items

  abbrev pub named : List ℕ → Vec ℕ Z → Bool
  named name k = bytes_eq name k.items

  named_is : (name : List ℕ) → IsKeyTest same_key (named name)
  named_is name x y is = ap (λ (n : List ℕ). bytes_eq n y.items) ((bytes_eq-Decides name x.items).0 is)

  apart : (name n : List ℕ) → bytes_eq name n ≡ false → AreApart (named name) (named n)
  apart name n ne k is = off (named n k) refl
    where
      off : (b : Bool) → bytes_eq n k.items ≡ b → b ≡ false
      off true e = absurd (not_equal name n ne ((bytes_eq-Decides name k.items).0 is ∙ sym ((bytes_eq-Decides n k.items).0 e)))
      off false e = refl

  -- an entry that is set, or removed
  pub finds : {X : Type 0} (old new : List (Vec ℕ Z × X)) (name : List ℕ) (file : Option X) → lookup (named name) new ≡ file → KeepsOthers same_key (named name) old new
      → (n : List ℕ) → lookup (named n) new ≡ (if bytes_eq name n then file else lookup (named n) old)
  unfolding KeepsOthers
  finds {X} old new name file is keeps n = by (bytes_eq name n) refl
    where
      by : (b : Bool) → bytes_eq name n ≡ b → lookup (named n) new ≡ (if b then file else lookup (named n) old)
      by true e = ap (λ (m : List ℕ). lookup (named m) new) (sym ((bytes_eq-Decides name n).0 e)) ∙ is
      by false e = keeps (named n) (named_is n) (apart name n e)

  pub set_entry : (old new : List (Vec ℕ Z × List ℕ)) (name : List ℕ) (file : Option (List ℕ)) → lookup (named name) new ≡ file → KeepsOthers same_key (named name) old new
      → SetAt (map file_of old) (map file_of new) name file
  set_entry old new name file is keeps n =
      found_entry new n ∙ finds old new name file is keeps n ∙ ap (λ (f : Option (List ℕ)). if bytes_eq name n then file else f) (sym (found_entry old n))
