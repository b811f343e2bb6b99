use Rattle.fwd_record.proofs.NotedLinks.{link_noted}
use Rattle.fwd_record.proofs.notes.Notes.note_link.Goals as goal

pub returns : goal.returns
returns c = λ seen tag is. link_noted is c.args.output tag c.args.link.0 c.push_reserved.ensures.items c.push_reserved-2.ensures.items c.push_reserved-3.ensures.items
