use Rattle.std.proofs.Common.{Some, None, sym, ◌∙◌}
use Rattle.std.proofs.lemmas.List.{append-nil}
use Rattle.fwd_record.proofs.NotedLinks.{push_noted}
use Rattle.fwd_record.proofs.notes.Notes.note_push.Goals as goal

pub returns-in-Some : goal.returns-in-Some
returns-in-Some c = λ seen bytes new is. push_noted is new c.args.link.0 bytes c.args.push (Some c.in-Some.output) c.in-Some.ensures c.push_reserved.ensures.items

pub returns-in_default : goal.returns-in_default
returns-in_default c = λ seen bytes new is. push_noted is new c.args.link.0 bytes c.args.push None (λ rising. sym c.in_default.is ∙ c.output_at.ensures rising) (sym (append-nil _))
