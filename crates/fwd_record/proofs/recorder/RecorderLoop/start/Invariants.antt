use Rattle.fwd_script_loop.specs.Place.{taken_answer}
use Rattle.fwd_outside.specs.Program.{entry}
use Rattle.fwd_outside.specs.Loop.{Start}
use Rattle.fwd_record.specs.Seen.{Answered}
use Rattle.fwd_record.proofs.recorder.RecorderLoop.start.Given as goal

abbrev pub ghost-then : goal.ghost-then
ghost-then g a = Answered (entry (Start a._note.now.0.now) (taken_answer a._note.now.1))
