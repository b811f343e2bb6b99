-- The filters that match, computed.
use Rattle.std.proofs.Common.{◌≡◌, inl, inr, ℕ, Bool, true, false, List, [], ◌∷◌, refl, ◌∙◌, ap}
use Rattle.std.specs.Prelude.{if◌then◌else◌}
use Rattle.std.specs.List.{filter_map}
use Rattle.fwd_route.specs.Glob.{Glob}
use Rattle.fwd_route.specs.GlobTest.{globs}
use Rattle.fwd_route.proofs.TestDecides.{globs_tell}
use Rattle.fwd_filters.specs.declared.filter_step.FilterKind.{FilterKind}
use Rattle.fwd_filters.specs.declared.filter_step.FilterStep.{FilterStep}
use Rattle.fwd_filters.specs.Step.{through}
use Rattle.fwd_filters.specs.FilterRelation.{AreMatching}
use Rattle.fwd_filters.specs.FilterFunction.{matching, FilteredAre}

module _ (tag : List ℕ) where
  are_by : (b : Bool) (step : FilterStep) (steps : List FilterStep) → globs step.glob tag ≡ b → AreMatching tag steps (matching tag steps)
      → AreMatching tag (step ∷ steps) (if b then step.kind ∷ matching tag steps else matching tag steps)
  are_by true step steps is more = inl ((globs_tell step.glob tag).0 is, (matching tag steps, refl, more))
  are_by false step steps is more = inr ((λ g. absurd (cc (is, (globs_tell step.glob tag).1 g))), more)

  pub are_matching : (steps : List FilterStep) → AreMatching tag steps (matching tag steps)
  are_matching [] = refl
  are_matching (step ∷ steps) = are_by (globs step.glob tag) step steps refl (are_matching steps)

  miss : (b : Bool) (glob : List ℕ) → globs glob tag ≡ b → (Glob glob tag → ⊥) → b ≡ false
  miss true glob is none = absurd (none ((globs_tell glob tag).0 is))
  miss false glob is none = refl

  pub matching_are : (steps : List FilterStep) (kinds : List FilterKind) → AreMatching tag steps kinds → kinds ≡ matching tag steps
  matching_are [] kinds none = none
  matching_are (step ∷ steps) kinds (inl here) =
      rw ((globs_tell step.glob tag).1 here.0) (here.1.1 ∙ ap (λ (l : List FilterKind). step.kind ∷ l) (matching_are steps here.1.0 here.1.2))
  matching_are (step ∷ steps) kinds (inr away) = rw (miss (globs step.glob tag) step.glob refl away.0) (matching_are steps kinds away.1)

pub filtered_are : FilteredAre
filtered_are steps tag events left =
    (λ f. f.2 ∙ ap (λ (kinds : List FilterKind). filter_map (through kinds) events) (matching_are tag steps f.0 f.1), λ is. (matching tag steps, are_matching tag steps, is))
