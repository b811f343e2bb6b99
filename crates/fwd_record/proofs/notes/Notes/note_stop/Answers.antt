use Rattle.fwd_record.proofs.NotedCalls.{noted_stop}
use Rattle.fwd_record.proofs.notes.Notes.note_stop.Goals as goal

pub returns : goal.returns
returns c = λ seen is. noted_stop is c.push_reserved.ensures.items
