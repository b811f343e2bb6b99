use Rattle.fwd_model.proofs.Outputs.{names_are}
use Rattle.fwd_engine_settings.proofs.lemmas.lemma_output_names_fit.Goals as goal

pub returns : goal.returns
returns c s tag sound = names_are s sound tag
