use Rattle.std.proofs.Common.{None}
use Rattle.fwd_engine_recovery.proofs.FileKinds.{nothing_found, leaves_nothing}
use Rattle.fwd_engine_recovery.proofs.adoption.take.Goals as goal

pub adopt-requires-clause-whole : goal.adopt-requires-clause-whole
adopt-requires-clause-whole c =
    let fits = c.requires.ready.3.files.0 c.in-Whole.brief c.in-Whole.is in
    (c.in-Whole.brief, c.in-Whole.is, fits.0, fits.1)

pub returns-in_ok-adopt-in-Whole-clause-state : goal.returns-in_ok-adopt-in-Whole-clause-state
returns-in_ok-adopt-in-Whole-clause-state c = rw c.in-Whole.is c.add_pending.ensures

pub returns-in-Empty-clause-state : goal.returns-in-Empty-clause-state
returns-in-Empty-clause-state c stream name bytes h seen below shows =
    let s = c.args.run.now in
    c.count_left.ensures c.args.chunk.0 stream name bytes s h None shows (below, leaves_nothing s bytes (nothing_found bytes c.args.found.now.seen c.in-Empty.is seen))
