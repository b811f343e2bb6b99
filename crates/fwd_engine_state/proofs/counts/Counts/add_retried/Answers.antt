use Rattle.fwd_model.specs.Fact.{Retries}
use Rattle.fwd_engine_state.specs.declared.count_changes.OutputChange.TheVariants as change
use Rattle.fwd_engine_state.proofs.CountLemmas.{retried_each, route_counted}
use Rattle.fwd_engine_state.proofs.counts.Counts.add_retried.Goals as goal

pub returns : goal.returns
returns c s h r wait to is = route_counted change.Retried (Retries wait) s h r c.args.output.0 _ _ (retried_each r wait h) to is c.change_output.ensures
