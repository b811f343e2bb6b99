use Rattle.std.proofs.Common.{refl, sym}
use Rattle.std.proofs.lemmas.List.{append-nil}
use Rattle.fwd_outside.specs.Loop.{Word}
use Rattle.fwd_record.proofs.NotedCalls.{noted_call}
use Rattle.fwd_record.proofs.notes.Notes.note_word.Goals as goal

pub returns : goal.returns
returns c = λ seen is. noted_call is Word c.args.word (sym (append-nil _)) c.push_reserved.ensures.items refl
