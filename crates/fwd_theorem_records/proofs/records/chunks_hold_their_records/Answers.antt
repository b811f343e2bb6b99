use Rattle.fwd_theorem_records.proofs.SentRecords.{hold_so_far}
use Rattle.fwd_theorem_records.proofs.WaitedPieces.{brought_so_far}
use Rattle.fwd_theorem_records.proofs.records.chunks_hold_their_records.Goals as goal

pub returns : goal.returns
returns c s ends ticks turns entries left chunk settings way are = hold_so_far s settings ends ticks turns entries left way (brought_so_far s ends ticks turns entries left way are) chunk
