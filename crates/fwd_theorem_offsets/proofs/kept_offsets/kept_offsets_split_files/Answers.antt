use Rattle.fwd_theorem_offsets.proofs.SplitFiles.{kept_splits}
use Rattle.fwd_theorem_offsets.proofs.kept_offsets.kept_offsets_split_files.Goals as goal

pub returns : goal.returns
returns c s ends ticks turns entries left input index place way alone kept most uncut = kept_splits s input index alone place most ends ticks turns entries left way kept uncut
