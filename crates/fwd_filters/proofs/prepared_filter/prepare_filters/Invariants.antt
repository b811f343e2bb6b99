use Rattle.std.proofs.Common.{map, take}
use Rattle.fwd_filters.specs.FilterRelation.{AreMatching}
use Rattle.fwd_filters.specs.Prepared.{kind_of}
use Rattle.fwd_filters.proofs.prepared_filter.prepare_filters.Given as goal

abbrev pub invariant-loop-step : goal.invariant-loop-step
invariant-loop-step l = AreMatching l.tag (take l.step-index l.steps) (map kind_of l.filters.items)
