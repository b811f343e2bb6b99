use Rattle.std.specs.Prelude.{None}
use Rattle.fwd_outside.specs.Program.{entry}
use Rattle.fwd_outside.specs.Loop.{Dial}
use Rattle.fwd_record.specs.Seen.{Answered}
use Rattle.fwd_record.proofs.recorder.RecorderLoop.dial.Given as goal

abbrev pub ghost-then : goal.ghost-then
ghost-then g a = Answered (entry (Dial (a._note.now.0).0 a._note.now.1.now) a._note.now.2)

abbrev pub ghost-then-2 : goal.ghost-then-2
ghost-then-2 g a = Answered (entry (Dial (a._note.now.0).0 a._note.now.1.now) None)
