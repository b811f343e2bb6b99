-- The results of several threads over a list, as a relation to the list.
use Rattle.std.proofs.Common.{◌≡◌, subst, ℕ, List, [], ◌∷◌, map, Bor, IfOk, ◌+◌, ◌%◌, ◌^◌}
use Rattle.std.specs.Prelude.{Ok}
use Rattle.std.specs.declared.result.Result.{Result}
use Rattle.std.specs.List.{AllZip}
use Rattle.rayon.specs.Lists.{enumerate_from}

module _ {X Y : Type 0} (E : Type 0) (R : X → Y → Type 0) where
  abbrev Each : ℕ × Bor X → Result Y E → Type 0
  Each p r = IfOk r (λ y. R p.1.now y)

  gathered : (at : ℕ) (zs : List (Bor X)) (ys : List Y) → AllZip Each (enumerate_from at zs) (map Ok ys) → AllZip R (map (λ (z : Bor X). z.now) zs) ys
  gathered at [] [] h = tt
  gathered at [] (y ∷ ys) h = absurd h
  gathered at (z ∷ zs) [] h = absurd h
  gathered at (z ∷ zs) (y ∷ ys) h = (h.0, gathered ((at + 1) % 2 ^ 64) zs ys h.1)

  -- the results of a slice's items, each with its index, if all are `Ok`
  pub gathered_in_order : (at : ℕ) (zs : List (Bor X)) (ps : List (ℕ × Bor X)) (rs : List (Result Y E)) (ys : List Y) (s : List X)
      → map (λ (z : Bor X). z.now) zs ≡ s → ps ≡ enumerate_from at zs → rs ≡ map Ok ys → AllZip Each ps rs → AllZip R s ys
  gathered_in_order at zs ps rs ys s shown places oks h =
      subst (λ (l : List X). AllZip R l ys) shown (gathered at zs ys (subst (λ l. AllZip Each l (map Ok ys)) places (subst (λ l. AllZip Each ps l) oks h)))
