use Rattle.fwd_model.specs.Fact.{Exhausted}
use Rattle.fwd_engine_state.specs.declared.count_changes.OutputChange.TheVariants as change
use Rattle.fwd_engine_state.proofs.CountLemmas.{spent_each, route_counted}
use Rattle.fwd_engine_state.proofs.counts.Counts.add_exhausted.Goals as goal

pub returns : goal.returns
returns c s h r to is = route_counted change.Exhausted Exhausted s h r c.args.output.0 _ _ (spent_each r h) to is c.change_output.ensures
