use Rattle.fwd_outside.specs.Program.{entry}
use Rattle.fwd_outside.specs.Loop.{DropConn}
use Rattle.fwd_live.proofs.live_loop.LiveLoopLoop.drop_conn.Given as goal

abbrev pub ghost-then : goal.ghost-then
ghost-then a = entry (DropConn (a._note.now).0) tt
