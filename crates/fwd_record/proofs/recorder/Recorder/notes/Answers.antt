use Rattle.fwd_record.proofs.KeptNotes.{notes_have_lines, notes_rise}
use Rattle.fwd_record.proofs.recorder.Recorder.notes.Goals as goal

pub returns-clause-rising : goal.returns-clause-rising
returns-clause-rising g c = notes_rise c.self.invariant.1 c.self.invariant.0.new_links

pub returns-clause-lines : goal.returns-clause-lines
returns-clause-lines g c = notes_have_lines _ c.self.invariant.1 c.self.invariant.0.allowed
