use Rattle.std.proofs.Common.{refl}
use Rattle.fwd_model.specs.Fact.{Refused, Malformed}
use Rattle.fwd_engine_state.specs.declared.count_changes.InputChange.TheVariants as change
use Rattle.fwd_engine_state.proofs.CountLemmas.{refused_each, misread_each, batch_counted, input_counted}
use Rattle.fwd_engine_state.proofs.counts.Counts.add_refused.Goals as goal

pub returns-clause-batch : goal.returns-clause-batch
returns-clause-batch c s h b why to is = batch_counted change.Refused (Refused b why) s h b.input c.args.input.0 _ _ to (refused_each b why h) (λ j. refl) refl is c.change_input.ensures

pub returns-clause-misread : goal.returns-clause-misread
returns-clause-misread c s h is = input_counted change.Refused (Malformed c.args.input.0) s h c.args.input.0 _ _ (misread_each c.args.input.0 h) (λ j. refl) refl is c.change_input.ensures
