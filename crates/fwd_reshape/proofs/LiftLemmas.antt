-- What is lifted, by the value of the key.
use Rattle.std.proofs.Common.{◌≡◌, ℕ, ◌∙◌, ap, cond, leb, Bool, true, false, ◌&&◌, ◌++◌, Option, None, Some, refl}
use Rattle.std.specs.Prelude.{position, slice_get, remove, find}
use Rattle.std.specs.Option.{option_map_or}
use Rattle.fwd_value.specs.Val.{Val, mapping, entries_of}
use Rattle.fwd_value.specs.View.{val_of}
use Rattle.fwd_value.specs.declared.value.Value.{Value}
use Rattle.fwd_value.specs.declared.value.Value.TheVariants as held
use Rattle.fwd_value.specs.declared.value.Pairs.{Pairs}
use Rattle.fwd_value.specs.Keys.{Record, has_key}
use Rattle.fwd_reshape.specs.Moves.{moved, lifted, lifted_from, fits, lifted_out}
use Rattle.fwd_reshape.specs.declared.rules.LiftRule.{LiftRule}
use Rattle.fwd_value.proofs.FirstMatch.{none_found, found}
use Rattle.fwd_reshape.proofs.Places.{without_first-at}
use Rattle.fwd_reshape.proofs.Depths.{deep, fits-lifted_out, pairs_of-entries_of}

module _ (rule : LiftRule) (body : Record) where
  pub lifted-none : position (has_key rule.under) body ≡ None → lifted rule body ≡ body
  lifted-none nowhere = ap (λ (o : Option (Val × Val)). option_map_or (λ p. lifted_from rule body p.1) o body) (none_found (has_key rule.under) body nowhere)

  lifted-found : (i : ℕ) (p : Val × Val) → position (has_key rule.under) body ≡ Some i → slice_get body i ≡ Some p → lifted rule body ≡ lifted_from rule body p.1
  lifted-found i p e there = ap (λ (o : Option (Val × Val)). option_map_or (λ q. lifted_from rule body q.1) o body) (found (has_key rule.under) body i p e there)

  lifted-map : (i : ℕ) (k : Val) (es : Record) → position (has_key rule.under) body ≡ Some i → slice_get body i ≡ Some (k, mapping (entries_of es))
      → lifted rule body ≡ cond (leb (deep (remove body i)) 62 && leb (deep es) 62) (remove body i ++ moved rule.remove_prefix rule.add_prefix es) body
  lifted-map i k es e there =
      lifted-found i _ e there
      ∙ ap (λ b. cond b (lifted_out rule (entries_of es) body) body) (fits-lifted_out rule es body)
      ∙ rw (without_first-at (has_key rule.under) body i _ e there, pairs_of-entries_of es) refl

  module _ (i : ℕ) (k : Val) (es rest : Record) (e : position (has_key rule.under) body ≡ Some i) (there : slice_get body i ≡ Some (k, mapping (entries_of es))) (gone : rest ≡ remove body i) where
    lifted-chosen : (b : Bool) → (leb (deep rest) 62 && leb (deep es) 62) ≡ b → lifted rule body ≡ cond b (rest ++ moved rule.remove_prefix rule.add_prefix es) body
    lifted-chosen b fit = lifted-map i k es e there ∙ rw (← gone, fit) refl

    -- the map is lifted if both parts fit
    pub lifted-fits : (leb (deep rest) 62 && leb (deep es) 62) ≡ true → lifted rule body ≡ rest ++ moved rule.remove_prefix rule.add_prefix es
    lifted-fits fit = lifted-chosen true fit

    pub lifted-deep : (leb (deep rest) 62 && leb (deep es) 62) ≡ false → lifted rule body ≡ body
    lifted-deep fit = lifted-chosen false fit

  kept : (v : Value) → ((pairs : Pairs) → v ≡ held.Map pairs → ⊥) → lifted_from rule body (val_of v) ≡ body
  kept held.Nil other = refl
  kept (held.Truth b) other = refl
  kept (held.Uint n) other = refl
  kept (held.Neg n) other = refl
  kept (held.Text s) other = refl
  kept (held.Bin s) other = refl
  kept (held.Float32 n) other = refl
  kept (held.Float64 n) other = refl
  kept (held.Ext t s) other = refl
  kept (held.List vs) other = refl
  kept (held.Map es) other = absurd (other es refl)

  pub lifted-other : (i : ℕ) (k : Val) (v : Value) → position (has_key rule.under) body ≡ Some i → slice_get body i ≡ Some (k, val_of v) → ((pairs : Pairs) → v ≡ held.Map pairs → ⊥) → lifted rule body ≡ body
  lifted-other i k v e there other = lifted-found i _ e there ∙ kept v other
