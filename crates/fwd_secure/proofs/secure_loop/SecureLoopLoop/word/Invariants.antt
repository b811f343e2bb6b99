use Rattle.fwd_outside.specs.Program.{entry}
use Rattle.fwd_outside.specs.Loop.{Word}
use Rattle.fwd_secure.proofs.secure_loop.SecureLoopLoop.word.Given as goal

abbrev pub ghost-then : goal.ghost-then
ghost-then g a = entry Word a._note.now
