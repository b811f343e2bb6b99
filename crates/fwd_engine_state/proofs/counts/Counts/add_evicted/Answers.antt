use Rattle.fwd_model.specs.Fact.{Evicted}
use Rattle.fwd_engine_state.specs.declared.count_changes.OutputChange.TheVariants as change
use Rattle.fwd_engine_state.proofs.CountLemmas.{lost_each, route_counted}
use Rattle.fwd_engine_state.proofs.counts.Counts.add_evicted.Goals as goal

pub returns : goal.returns
returns c s h r to is = route_counted change.Evicted Evicted s h r c.args.output.0 _ _ (lost_each r h) to is c.change_output.ensures
