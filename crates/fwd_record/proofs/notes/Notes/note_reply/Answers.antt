use Rattle.fwd_record.proofs.NotedCalls.{noted_reply}
use Rattle.fwd_record.proofs.notes.Notes.note_reply.Goals as goal

pub returns : goal.returns
returns c = λ seen conn bytes is. noted_reply is conn bytes c.args.taken c.push_reserved.ensures.items
