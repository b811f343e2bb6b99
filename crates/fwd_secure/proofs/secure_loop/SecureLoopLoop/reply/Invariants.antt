use Rattle.fwd_outside.specs.Program.{entry}
use Rattle.fwd_outside.specs.Loop.{Reply}
use Rattle.fwd_secure.proofs.LogEntries.{replied_answer}
use Rattle.fwd_secure.proofs.secure_loop.SecureLoopLoop.reply.Given as goal

abbrev pub ghost-then : goal.ghost-then
ghost-then g a = entry (Reply (a._note.now.0).0 a._note.now.1.now) (replied_answer a._note.now.2)
