use Rattle.std.proofs.Common.{refl}
use Rattle.fwd_outside.proofs.DiskPrograms.{synced}
use Rattle.fwd_chunk.proofs.append.sync_if.Goals as goal

pub returns-then-full-clause-calls : goal.returns-then-full-clause-calls
returns-then-full-clause-calls g c = rw c.if-full.true ((synced refl c.sync.ensures.call_log).makes)
