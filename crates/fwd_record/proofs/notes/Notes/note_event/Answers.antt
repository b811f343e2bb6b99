use Rattle.std.proofs.Common.{List, ◌++◌, refl, sym, ap, ◌∙◌}
use Rattle.std.proofs.lemmas.List.{append-nil}
use Rattle.fwd_outside.specs.Loop.{Wait}
use Rattle.fwd_outside.specs.declared.happening.Happening.{Happening}
use Rattle.fwd_record.specs.Recorded.{unless_end}
use Rattle.fwd_record.proofs.NotedCalls.{noted_call, one_event}
use Rattle.fwd_record.proofs.notes.Notes.note_event.Goals as goal

pub returns-in-End : goal.returns-in-End
returns-in-End c = λ seen until paused is.
    noted_call is (Wait until paused) c.args.brought
    (sym (append-nil c.args.self.now.heard.items) ∙ ap (λ (h : Happening). c.args.self.now.heard.items ++ unless_end h) (sym c.in-End.is))
    (sym (append-nil c.args.self.now.answers.items)) refl

pub returns-in_default : goal.returns-in_default
returns-in_default c = λ seen until paused is.
    noted_call is (Wait until paused) c.args.brought
    (c.push_reserved.ensures.items ∙ ap (λ (l : List Happening). c.args.self.now.heard.items ++ l) (sym (one_event c.args.brought c.in_default.not-End)))
    (sym (append-nil c.args.self.now.answers.items)) refl
