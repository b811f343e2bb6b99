use Rattle.std.proofs.Common.{map}
use Rattle.rayon.proofs.ListFacts.{IfOk-then}
use Rattle.fwd_filters.specs.Prepared.{kind_of}
use Rattle.fwd_filters.proofs.FilterFunction.{matching_are}
use Rattle.fwd_filters.proofs.prepared_filter.FilterStepsFilters.ready.Goals as goal

pub returns : goal.returns
returns c =
    IfOk-then c.prepare_filters.result _ _ c.prepare_filters.ensures (λ filters are.
    matching_are c.args.tag.now c.args.self.now (map kind_of filters.items) (rw c.as_slice.ensures at are))
