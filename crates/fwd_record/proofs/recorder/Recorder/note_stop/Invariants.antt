use Rattle.fwd_record.specs.Seen.{Stopped}
use Rattle.fwd_record.proofs.recorder.Recorder.note_stop.Given as goal

abbrev pub ghost-then : goal.ghost-then
ghost-then g a = Stopped
