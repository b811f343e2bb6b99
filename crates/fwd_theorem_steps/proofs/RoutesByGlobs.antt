-- The outputs that a tag matches, by their globs.
use Rattle.std.proofs.Common.{◌≡◌, ◌⊎◌, inl, inr, ℕ, zero, suc, ◌+◌, Bool, true, false, cond, List, [], ◌∷◌, map, Some, refl, sym, ◌∙◌, ap, subst, arith}
use Rattle.std.specs.Prelude.{Contains, slice_get}
use Rattle.fwd_route.specs.Glob.{Glob}
use Rattle.fwd_route.specs.GlobTest.{globs, matching_from}
use Rattle.fwd_route.proofs.TestDecides.{globs_tell}
use Rattle.fwd_settings.specs.declared.settings_types.AllSettings.{AllSettings}
use Rattle.fwd_settings.specs.declared.settings_types.OutputSet.{OutputSet}
use Rattle.fwd_model.specs.Settings.{output_at, outputs_for}
use Rattle.fwd_theorem_trace.proofs.Members.{here, deeper, either}

module _ (tag : List ℕ) where
  abbrev matching : ℕ → List OutputSet → List ℕ
  matching n outputs = matching_from n (map (λ (o : OutputSet). o.glob) outputs) tag

  -- the output of this number, counted from n on, and its glob matches
  record Matches (n : ℕ) (outputs : List OutputSet) (output : ℕ) : Type 0 where
    at : ℕ
    set : OutputSet
    number : output ≡ n + at
    is : slice_get outputs at ≡ Some set
    matches : globs set.glob tag ≡ true

  next : (n : ℕ) (o : OutputSet) (os : List OutputSet) (output : ℕ) → Matches (n + 1) os output → Matches n (o ∷ os) output
  next n o os output there = let at = there.number in record { at = suc there.at; set = there.set; number = omega (arith, at); is = there.is; matches = there.matches }

  among : (n : ℕ) (outputs : List OutputSet) (output : ℕ) → Contains (matching n outputs) output → Matches n outputs output
  among n [] output has = absurd (omega (arith, has.1))
  among n (o ∷ os) output has = by (globs o.glob tag) refl has (among (n + 1) os output)
    where
      by : (b : Bool) → globs o.glob tag ≡ b → Contains (cond b (n ∷ matching (n + 1) os) (matching (n + 1) os)) output → (Contains (matching (n + 1) os) output → Matches (n + 1) os output) → Matches n (o ∷ os) output
      by false is has more = next n o os output (more has)
      by true is has more = first (either n (matching (n + 1) os) output has)
        where
          first : (n ≡ output) ⊎ Contains (matching (n + 1) os) output → Matches n (o ∷ os) output
          first (inl same) = record { at = 0; set = o; number = omega (arith, same); is = refl; matches = is }
          first (inr there) = next n o os output (more there)

  found : (n : ℕ) (outputs : List OutputSet) (at output : ℕ) (set : OutputSet) → output ≡ n + at → slice_get outputs at ≡ Some set → globs set.glob tag ≡ true → Contains (matching n outputs) output
  found n [] at output set number is matches = absurd (cc is)
  found n (o ∷ os) zero output set number is matches =
      let same : o ≡ set = cc is in
      let on : globs o.glob tag ≡ true = ap (λ (x : OutputSet). globs x.glob tag) same ∙ matches in
      let here_it : n ≡ output = omega (arith, number) in
      let first = subst (λ (k : ℕ). Contains (n ∷ matching (n + 1) os) k) here_it (here n (matching (n + 1) os)) in
      subst (λ (b : Bool). Contains (cond b (n ∷ matching (n + 1) os) (matching (n + 1) os)) output) (sym on) first
  found n (o ∷ os) (suc at) output set number is matches = by (globs o.glob tag) (found (n + 1) os at output set (omega (arith, number)) is matches)
    where
      by : (b : Bool) → Contains (matching (n + 1) os) output → Contains (cond b (n ∷ matching (n + 1) os) (matching (n + 1) os)) output
      by true there = deeper n (matching (n + 1) os) output there
      by false there = there

pub routes_match : (s : AllSettings) (tag : List ℕ) (output : ℕ) → Contains (outputs_for s tag) output → (set : OutputSet) × (output_at s output ≡ Some set) × Glob set.glob tag
routes_match s tag output has =
    let there = among tag 0 s.outputs output has in
    let number = there.number in
    let at : there.at ≡ output = omega (arith, number) in
    (there.set, subst (λ (k : ℕ). slice_get s.outputs k ≡ Some there.set) at there.is, (globs_tell there.set.glob tag).0 there.matches)

pub matches_route : (s : AllSettings) (tag : List ℕ) (output : ℕ) → ((set : OutputSet) × (output_at s output ≡ Some set) × Glob set.glob tag) → Contains (outputs_for s tag) output
matches_route s tag output (set, is, glob) = found tag 0 s.outputs output output set (omega arith) is ((globs_tell set.glob tag).1 glob)
