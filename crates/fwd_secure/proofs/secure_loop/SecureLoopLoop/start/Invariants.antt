use Rattle.fwd_outside.specs.Program.{entry}
use Rattle.fwd_outside.specs.Loop.{Start}
use Rattle.fwd_secure.proofs.LogEntries.{begun_answer}
use Rattle.fwd_secure.proofs.secure_loop.SecureLoopLoop.start.Given as goal

abbrev pub ghost-then : goal.ghost-then
ghost-then g a = entry (Start a._note.now.0.now) (begun_answer a._note.now.1)
