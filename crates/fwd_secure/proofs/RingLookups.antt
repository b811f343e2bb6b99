-- Whether an input or an output has a ring, by the reference to it.
use Rattle.std.proofs.Common.{◌≡◌, Bool, Option, Some, None, is_some, option_map, refl, sym, ◌∙◌, ap}

module _ {A B : Type 0} where
  pub ring_there : (r : Option A) (f : A → B) (o : Option B) (there : Bool) → option_map f r ≡ o → is_some r ≡ there → is_some o ≡ there
  ring_there (Some x) f o there same is = ap is_some (sym same) ∙ is
  ring_there None f o there same is = ap is_some (sym same) ∙ is

  pub no_ring : (r : Option A) (f : A → B) (o : Option B) → option_map f r ≡ o → ((x : A) → r ≡ Some x → ⊥) → None ≡ o
  no_ring (Some x) f o same missing = absurd (missing x refl)
  no_ring None f o same missing = same
