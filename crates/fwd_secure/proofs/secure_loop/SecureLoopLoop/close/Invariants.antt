use Rattle.fwd_outside.specs.Program.{entry}
use Rattle.fwd_outside.specs.Loop.{Close}
use Rattle.fwd_secure.proofs.secure_loop.SecureLoopLoop.close.Given as goal

abbrev pub ghost-then : goal.ghost-then
ghost-then g a = entry (Close (a._note.now).0) tt
