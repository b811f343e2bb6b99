use Rattle.fwd_record.proofs.NotedLinks.{refusal_noted}
use Rattle.fwd_record.proofs.notes.Notes.note_refusal.Goals as goal

pub returns : goal.returns
returns c = λ seen tag is. refusal_noted is c.args.output tag c.push_reserved.ensures.items
