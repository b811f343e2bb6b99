use Rattle.fwd_engine_inputs.proofs.FileSteps.{files_after_other_fact}
use Rattle.fwd_engine_inputs.proofs.file_lemmas.lemma_other_facts_keep_files.Goals as goal

pub returns : goal.returns
returns c = files_after_other_fact
