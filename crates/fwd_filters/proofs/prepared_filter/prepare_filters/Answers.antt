use Rattle.std.proofs.Common.{◌≡◌, ◌+◌, ◌∙◌, sym, ap, subst, List, [], ◌∷◌, ◌++◌, map, take}
use Rattle.std.proofs.lemmas.List.{take_more, map-append}
use Rattle.fwd_route.specs.Glob.{Glob}
use Rattle.fwd_filters.specs.declared.filter_step.FilterStep.{FilterStep}
use Rattle.fwd_filters.specs.declared.filter_step.FilterKind.{FilterKind}
use Rattle.fwd_filters.specs.Prepared.{kind_of}
use Rattle.fwd_filters.specs.FilterRelation.{AreMatching}
use Rattle.fwd_filters.proofs.Matches.{matching-push, matching-kept}
use Rattle.fwd_filters.proofs.prepared_filter.prepare_filters.Goals as goal
use Rattle.fwd_filters.proofs.prepared_filter.prepare_filters.Goals.{then-matches+in_ok-ready+in_ok-push, else-matches}

pub loop-step-preserved : goal.loop-step-preserved
loop-step-preserved c =
    let steps = c.args.steps.now in
    let tag = c.args.tag.now in
    let i = c.loop-step.step-index in
    let step = c.step-item.result in
    let kinds = map kind_of c.loop-step.filters.items in
    let more : take (i + 1) steps ≡ take i steps ++ step ∷ [] =
    take_more steps i step c.loop-step-test.true ∙ ap (λ (s : FilterStep). take i steps ++ s ∷ []) (sym c.step-item.is) in
    elim c.if-matches.branch [
      | then-matches+in_ok-ready+in_ok-push w ↦
          let hit : Glob step.glob tag = rw c.as_slice.ensures at (c.matches.ensures.0 w.if-matches.true) in
          let longer : map kind_of c.if-matches.filters.items ≡ kinds ++ step.kind ∷ [] =
          ap (λ v. map kind_of v.items) w.filters-is ∙ ap (map kind_of) w.in_ok-push.ensures.items
          ∙ map-append kind_of c.loop-step.filters.items (w.in_ok-ready.field-0 ∷ []) ∙ ap (λ (k : FilterKind). kinds ++ k ∷ []) w.in_ok-ready.ensures in
          subst (λ (ks : List FilterKind). AreMatching tag (take (i + 1) steps) ks) (sym longer) (rw more (matching-push tag step hit (take i steps) kinds c.loop-step.invariant))
      | else-matches w ↦
          let miss : Glob step.glob tag → ⊥ = λ hit. let yes = c.matches.ensures.1 (rw c.as_slice.ensures hit) in absurd cc in
          rw (w.filters-is, more) (matching-kept tag step miss (take i steps) kinds c.loop-step.invariant)
    ]
