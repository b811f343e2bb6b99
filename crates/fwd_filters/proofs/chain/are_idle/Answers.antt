use Rattle.std.proofs.Common.{◌≡◌, ◌+◌, ◌∙◌, sym, ap, subst, List, [], ◌∷◌, ◌++◌, take}
use Rattle.std.proofs.lemmas.List.{take_more}
use Rattle.fwd_route.specs.Glob.{Glob}
use Rattle.fwd_filters.specs.declared.filter_step.FilterStep.{FilterStep}
use Rattle.fwd_filters.proofs.Matches.{matching-kept, front-idle, last-misses}
use Rattle.fwd_filters.specs.FilterRelation.{AreMatching}
use Rattle.fwd_filters.proofs.chain.are_idle.Goals as goal

pub loop-step-preserved : goal.loop-step-preserved
loop-step-preserved c =
    let steps = c.args.steps.now in
    let tag = c.args.tag.now in
    let i = c.loop-step.step-index in
    let step = c.step-item.result in
    let more : take (i + 1) steps ≡ take i steps ++ step ∷ [] =
    take_more steps i step c.loop-step-test.true ∙ ap (λ (s : FilterStep). take i steps ++ s ∷ []) (sym c.step-item.is) in
    let miss : Glob step.glob tag → ⊥ = λ hit. let yes = c.matches.ensures.1 (rw c.as_slice.ensures hit) in absurd cc in
    rw more (matching-kept tag step miss (take i steps) [] c.loop-step.invariant)

pub returns-then-matches : goal.returns-then-matches
returns-then-matches c =
    let steps = c.args.steps.now in
    let tag = c.args.tag.now in
    let i = c.loop-step.step-index in
    let step = c.step-item.result in
    let more : take (i + 1) steps ≡ take i steps ++ step ∷ [] =
    take_more steps i step c.loop-step-test.true ∙ ap (λ (s : FilterStep). take i steps ++ s ∷ []) (sym c.step-item.is) in
    let hit : Glob step.glob tag = rw c.as_slice.ensures at (c.matches.ensures.0 c.if-matches.true) in
    let none : AreMatching tag steps [] → ⊥ = λ idle. last-misses tag step (take i steps) (subst (λ (l : List FilterStep). AreMatching tag l []) more (front-idle tag (i + 1) steps idle)) hit in
    (λ yes. absurd cc, λ idle. absurd (none idle))
