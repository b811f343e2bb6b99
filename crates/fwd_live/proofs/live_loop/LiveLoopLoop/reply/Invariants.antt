use Rattle.fwd_outside.specs.Program.{entry}
use Rattle.fwd_outside.specs.Loop.{Reply}
use Rattle.fwd_live.proofs.live_loop.LiveLoopLoop.reply.Given as goal

abbrev pub ghost-then : goal.ghost-then
ghost-then a = entry (Reply (a._note.now.0).0 a._note.now.1.now) a._note.now.2
