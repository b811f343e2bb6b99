use Rattle.fwd_theorem_records.proofs.StoredEvents.{writable_so_far}
use Rattle.fwd_theorem_records.proofs.WaitedPieces.{brought_so_far}
use Rattle.fwd_theorem_records.proofs.records.stored_events_are_writable.Goals as goal

pub returns : goal.returns
returns c s ends ticks turns entries left settings way are = writable_so_far s settings ends ticks turns entries left way (brought_so_far s ends ticks turns entries left way are)
