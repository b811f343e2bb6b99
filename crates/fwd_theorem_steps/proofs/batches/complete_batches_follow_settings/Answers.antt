use Rattle.fwd_theorem_steps.proofs.MadeBatches.{batch_made}
use Rattle.fwd_theorem_steps.proofs.batches.complete_batches_follow_settings.Goals as goal

pub returns : goal.returns
returns c s before fact b has = batch_made s before b fact has
