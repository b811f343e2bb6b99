use denote.Param.Send.{sendable}
use Rattle.std.proofs.Common.{sym, [], subst, List}
use Rattle.std.proofs.Crossing as std
use Rattle.rayon.proofs.ListFacts.{IfOk-then}
use Rattle.fwd_filters.specs.declared.filter_step.FilterStep.{FilterStep}
use Rattle.fwd_filters.specs.FilterRelation.{AreMatching}
use Rattle.fwd_filters.proofs.ThreadSafety.{crosses}
use Rattle.fwd_filters.proofs.Matches.{filtered-none}
use Rattle.fwd_filters.proofs.FilterFunction.{filtered_are}
use Rattle.fwd_filters.proofs.chain.filter_gated.Goals as goal

pub returns-then-are_idle : goal.returns-then-are_idle
returns-then-are_idle g c =
    let none = c.are_idle.ensures.0 c.if-are_idle.true in
    ([], subst (λ (l : List FilterStep). AreMatching c.args.tag.now l []) c.as_slice.ensures none, sym (filtered-none c.args.events))

pub returns-then-len-lt-PARALLEL_EVENTS : goal.returns-then-len-lt-PARALLEL_EVENTS
returns-then-len-lt-PARALLEL_EVENTS g c =
    IfOk-then c.filter_on_this_thread.result _ _ c.filter_on_this_thread.ensures (λ left is. (filtered_are c.args.steps.now c.args.tag.now c.args.events left).1 is)

pub returns-else-len-lt-PARALLEL_EVENTS : goal.returns-else-len-lt-PARALLEL_EVENTS
returns-else-len-lt-PARALLEL_EVENTS g c =
    IfOk-then c.in_runs.result _ _ c.in_runs.ensures (λ left is. (filtered_are c.args.steps.now c.args.tag.now c.args.events left).1 is)

-- threads may share the filters
pub in_runs-requires-sync-F : goal.in_runs-requires-sync-F
in_runs-requires-sync-F g c κs within = search (sendable, std.crosses, crosses) depth 40
