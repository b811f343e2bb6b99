-- The filters whose glob matches, with one filter more; and events for which there are none.
use Rattle.std.proofs.Common.{◌≡◌, ap, inl, inr, ℕ, zero, suc, List, [], ◌∷◌, ◌++◌, take, refl}
use Rattle.std.specs.List.{filter_map}
use Rattle.fwd_route.specs.Glob.{Glob}
use Rattle.fwd_event.specs.declared.event.Event.{Event}
use Rattle.fwd_filters.specs.declared.filter_step.FilterKind.{FilterKind}
use Rattle.fwd_filters.specs.declared.filter_step.FilterStep.{FilterStep}
use Rattle.fwd_filters.specs.Step.{through}
use Rattle.fwd_filters.specs.FilterRelation.{AreMatching}

module _ (tag : List ℕ) (step : FilterStep) where
  pub matching-push : Glob step.glob tag → (steps : List FilterStep) (kinds : List FilterKind) → AreMatching tag steps kinds → AreMatching tag (steps ++ step ∷ []) (kinds ++ step.kind ∷ [])
  matching-push hit [] kinds none = inl (hit, ([], ap (λ (l : List FilterKind). l ++ step.kind ∷ []) none, refl))
  matching-push hit (s ∷ steps) kinds (inl here) = inl (here.0, (here.1.0 ++ step.kind ∷ [], ap (λ (l : List FilterKind). l ++ step.kind ∷ []) here.1.1, matching-push hit steps here.1.0 here.1.2))
  matching-push hit (s ∷ steps) kinds (inr away) = inr (away.0, matching-push hit steps kinds away.1)

  pub matching-kept : (Glob step.glob tag → ⊥) → (steps : List FilterStep) (kinds : List FilterKind) → AreMatching tag steps kinds → AreMatching tag (steps ++ step ∷ []) kinds
  matching-kept miss [] kinds none = inr (miss, none)
  matching-kept miss (s ∷ steps) kinds (inl here) = inl (here.0, (here.1.0, here.1.1, matching-kept miss steps here.1.0 here.1.2))
  matching-kept miss (s ∷ steps) kinds (inr away) = inr (away.0, matching-kept miss steps kinds away.1)

  pub last-misses : (steps : List FilterStep) → AreMatching tag (steps ++ step ∷ []) [] → Glob step.glob tag → ⊥
  last-misses [] (inl here) hit = let clash = here.1.1 in absurd cc
  last-misses [] (inr away) hit = away.0 hit
  last-misses (s ∷ steps) (inl here) hit = let clash = here.1.1 in absurd cc
  last-misses (s ∷ steps) (inr away) hit = last-misses steps away.1 hit

-- if no glob matches, none of the first n does
pub front-idle : (tag : List ℕ) (n : ℕ) (steps : List FilterStep) → AreMatching tag steps [] → AreMatching tag (take n steps) []
front-idle tag zero steps idle = refl
front-idle tag (suc n) [] idle = idle
front-idle tag (suc n) (s ∷ steps) (inl here) = let clash = here.1.1 in absurd cc
front-idle tag (suc n) (s ∷ steps) (inr away) = inr (away.0, front-idle tag n steps away.1)

pub filtered-none : (events : List Event) → filter_map (through []) events ≡ events
filtered-none [] = refl
filtered-none (e ∷ events) = ap (λ (l : List Event). e ∷ l) (filtered-none events)
