use Rattle.fwd_outside.specs.Program.{entry}
use Rattle.fwd_outside.specs.Loop.{DropConn}
use Rattle.fwd_secure.proofs.secure_loop.SecureLoopLoop.drop_conn.Given as goal

abbrev pub ghost-then : goal.ghost-then
ghost-then g a = entry (DropConn (a._note.now).0) tt
