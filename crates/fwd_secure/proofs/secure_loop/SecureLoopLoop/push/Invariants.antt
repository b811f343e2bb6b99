use Rattle.fwd_outside.specs.Program.{entry}
use Rattle.fwd_outside.specs.Loop.{Push}
use Rattle.fwd_secure.proofs.LogEntries.{pushed_answer}
use Rattle.fwd_secure.proofs.secure_loop.SecureLoopLoop.push.Given as goal

abbrev pub ghost-then : goal.ghost-then
ghost-then g a = entry (Push (a._note.now.0).0 a._note.now.1.now) (pushed_answer a._note.now.2)
