use Rattle.fwd_theorem_replay.proofs.PresetFiles.{first_stores}
use Rattle.fwd_theorem_replay.proofs.crashes.only_first_run_has_files.Goals as goal

pub returns : goal.returns
returns c text schedule is = first_stores text schedule is
