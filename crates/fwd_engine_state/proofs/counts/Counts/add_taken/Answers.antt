use Rattle.std.proofs.Common.{refl}
use Rattle.fwd_model.specs.Fact.{Sent}
use Rattle.fwd_engine_state.specs.declared.count_changes.OutputChange.TheVariants as change
use Rattle.fwd_engine_state.proofs.CountLemmas.{handed_each, output_counted}
use Rattle.fwd_engine_state.proofs.counts.Counts.add_taken.Goals as goal

pub returns : goal.returns
returns c s h is = output_counted (change.Sent c.args.bytes) (Sent c.args.output.0 c.args.bytes) s h c.args.output.0 _ _ (handed_each c.args.output.0 c.args.bytes h) (λ j. refl) refl is c.change_output.ensures
