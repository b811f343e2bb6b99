-- Lists with the same image under a map, and elements of them.
use Rattle.std.proofs.Common.{◌≡◌, ℕ, ◌<◌, ◌∙◌, sym, ap, subst, List, length, map, set, get_or}
use Rattle.std.proofs.lemmas.List.{length-map, map-set, get_or-map, set-get_or}

module _ {A B C : Type 0} (f : A → C) (g : B → C) where
  -- they are equally long
  as_many : (xs : List A) (ys : List B) → map f xs ≡ map g ys → length xs ≡ length ys
  as_many xs ys same = sym (length-map xs f) ∙ ap length same ∙ length-map ys g

  within : (xs : List A) (ys : List B) (i : ℕ) → map f xs ≡ map g ys → i < length ys → i < length xs
  within xs ys i same h = subst (λ n. i < n) (sym (as_many xs ys same)) h

  -- the elements at one index have the same image
  pub same_at : (xs : List A) (ys : List B) (i : ℕ) (x : A) (y : B) → map f xs ≡ map g ys → i < length ys → x ≡ get_or xs i x → y ≡ get_or ys i y → f x ≡ g y
  same_at xs ys i x y same h here there =
      ap f here ∙ sym (get_or-map f xs i x (g y) (within xs ys i same h)) ∙ ap (λ zs. get_or zs i (g y)) same ∙ get_or-map g ys i y (g y) h ∙ ap g (sym there)

  -- replacing an element by one with the same image doesn't change the image of the list
  pub set_same : (xs : List A) (ys : List B) (i : ℕ) (x new : A) → map f xs ≡ map g ys → i < length ys → x ≡ get_or xs i x → f new ≡ f x → map f (set xs i new) ≡ map g ys
  set_same xs ys i x new same h here alike =
      map-set f xs i new
      ∙ ap (λ c. set (map f xs) i c) (alike ∙ ap f here ∙ sym (get_or-map f xs i x (f x) (within xs ys i same h)))
      ∙ set-get_or (map f xs) i (f x) ∙ same
