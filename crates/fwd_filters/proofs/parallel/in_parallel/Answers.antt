use Rattle.std.proofs.Common.{◌∙◌, ap}
use Rattle.std.specs.List.{flat_map}
use Rattle.rayon.proofs.ListFacts.{IfOk-then}
use Rattle.fwd_filters.specs.declared.runs.Run.{Run}
use Rattle.fwd_filters.specs.declared.runs.FilteredRun.{FilteredRun}
use Rattle.fwd_filters.specs.Step.{through}
use Rattle.fwd_filters.proofs.Join.{join_parts_in_order}
use Rattle.fwd_filters.proofs.parallel.in_parallel.Goals as goal

pub returns : goal.returns
returns g c =
    let h = c.in_ok-collect.ensures in
    let chain = rw (c.map.ensures.base, c.map.ensures.f, c.with_min_len.ensures.base) at h.1 in
    let all = rw c.in_ok-parts.was at h.2 in
    let runs = ap (flat_map (λ (run : Run). run.events)) (chain.1 ∙ c.into_par_iter.ensures) ∙ c.in_ok-split_runs.ensures in
    IfOk-then c.join_parts.result _ _ c.join_parts.ensures (λ left is.
    is ∙ ap (flat_map (λ (part : FilteredRun). part.left)) all.2
    ∙ join_parts_in_order _ (λ (run : Run). run.events) (λ (part : FilteredRun). part.left) (through (g.F.Filters.kinds c.args.filters.now c.args.tag.now)) chain.0 h.0 all.0 c.args.events runs chain.2 all.1)
