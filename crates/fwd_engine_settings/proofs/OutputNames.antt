-- The names of the outputs of a mask, collected bit by bit.
use Rattle.std.proofs.Common.{◌≡◌, ℕ, ◌+◌, true, false, List, [], ◌∷◌, ◌++◌, map, refl, sym, ap, ◌∙◌}
use Rattle.std.specs.Prelude.{◌==◌}
use Rattle.std.specs.Int.{bit_at}
use Rattle.std.proofs.lemmas.List.{map-append, append-nil}
use Rattle.fwd_table.specs.Route.{Route}
use Rattle.fwd_table.specs.Routes.{idle_at, routes_below}
use Rattle.fwd_table.proofs.MaskRoutes.{routes_below-none, routes_below-more}

module _ (name_at : ℕ → List ℕ) (mask : ℕ) where
  -- the names of the first n outputs of the mask
  abbrev pub names_below : ℕ → List (List ℕ)
  names_below n = map (λ (r : Route). name_at r.output.0) (routes_below n mask)

  pub names_none : [] ≡ names_below 0
  names_none = sym (ap (map (λ (r : Route). name_at r.output.0)) (routes_below-none mask))

  pub names_more : (n : ℕ) (names : List (List ℕ)) → (bit_at mask n == 1) ≡ true → names ≡ names_below n
      → names ++ name_at n ∷ [] ≡ names_below (n + 1)
  names_more n names set are =
      rw (routes_below-more n mask, set, are)
      (sym (map-append (λ (r : Route). name_at r.output.0) (routes_below n mask) (idle_at 0 (record { 0 = n }) ∷ [])))

  pub names_same : (n : ℕ) (names : List (List ℕ)) → (bit_at mask n == 1) ≡ false → names ≡ names_below n
      → names ≡ names_below (n + 1)
  names_same n names clear are = rw (routes_below-more n mask, clear, append-nil (routes_below n mask)) are
