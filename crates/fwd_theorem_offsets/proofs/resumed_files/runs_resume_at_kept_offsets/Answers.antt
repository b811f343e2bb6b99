use Rattle.fwd_theorem_offsets.proofs.RunStart.{begun_at_wait}
use Rattle.fwd_theorem_offsets.proofs.FirstRead.{read_at}
use Rattle.fwd_theorem_offsets.proofs.resumed_files.runs_resume_at_kept_offsets.Goals as goal

pub returns-clause-begun : goal.returns-clause-begun
returns-clause-begun c s ends ticks turns before after left until mask brought file way none among alone = begun_at_wait s file among alone ends ticks turns before after left until mask brought way none

pub returns-clause-read : goal.returns-clause-read
returns-clause-read c s h input index place long at max path named other answer entries left is way = read_at s h input index place long at max path named other answer entries left is way
