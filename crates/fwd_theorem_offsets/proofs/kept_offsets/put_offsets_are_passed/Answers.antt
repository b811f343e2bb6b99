use Rattle.fwd_theorem_offsets.proofs.PassedOffsets.{passed_so_far}
use Rattle.fwd_theorem_offsets.proofs.kept_offsets.put_offsets_are_passed.Goals as goal

pub returns : goal.returns
returns c s ends ticks turns entries left way = passed_so_far s ends ticks turns entries left way
