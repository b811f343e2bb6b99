use Rattle.fwd_script_loop.specs.Place.{taken_answer}
use Rattle.fwd_outside.specs.Program.{entry}
use Rattle.fwd_outside.specs.Loop.{Reply}
use Rattle.fwd_record.specs.Seen.{Answered}
use Rattle.fwd_record.proofs.recorder.RecorderLoop.reply.Given as goal

abbrev pub ghost-then : goal.ghost-then
ghost-then g a = Answered (entry (Reply (a._note.now.0).0 a._note.now.1.now) (taken_answer a._note.now.2))
