use Rattle.std.proofs.Common.{refl, ap, ℕ, length, sym, ◌∙◌}
use Rattle.fwd_script_loop.specs.declared.call_record.LoopNote.TheVariants as note
use Rattle.fwd_script_loop.specs.RunEvents.{ahead_of}
use Rattle.fwd_script_loop.specs.Lines.{word_answer}
use Rattle.fwd_script_loop.specs.Place.{pushed}
use Rattle.fwd_script.specs.declared.schedule.PushWord.{PushWord}
use Rattle.fwd_script_loop.proofs.PlayedCalls.{here, kept_call, stands_here}
use Rattle.fwd_script_loop.proofs.AnswerSteps.{pushed_within}
use Rattle.fwd_script_loop.proofs.script.ScriptLoop.push.Goals as goal

pub invariant_of-self-then-not-is_empty : goal.invariant_of-self-then-not-is_empty
invariant_of-self-then-not-is_empty c =
    kept_call c.self.inside.course.unread.lines c.self.inside.answers c.self.inside.notes.items (ahead_of c.self.inside.course) c.self.inside.left c.self.invariant
    (note.Push c.args.link c.in-Ok-from_slice.piece c.push-answer.result) c.reserve.new.self.items c.push_reserved.new.self.items c.push-answer.new.self c.reserve.ensures.items c.push_reserved.ensures.items
    (λ p stands. c.push-answer.ensures.answer p stands ∙ ap (λ (n : ℕ). pushed p c.args.link.0 n) (ap length (sym c.in-Ok-from_slice.ensures))) c.push-answer.ensures.after refl

pub invariant_of-self-else-not-is_empty : goal.invariant_of-self-else-not-is_empty
invariant_of-self-else-not-is_empty c =
    kept_call c.self.inside.course.unread.lines c.self.inside.answers c.self.inside.notes.items (ahead_of c.self.inside.course) c.self.inside.left c.self.invariant
    (note.Push c.args.link c.in-Ok-from_slice.piece c.push-answer.result) c.reserve.new.self.items c.push_reserved.new.self.items c.push-answer.new.self c.reserve.ensures.items c.push_reserved.ensures.items
    (λ p stands. c.push-answer.ensures.answer p stands ∙ ap (λ (n : ℕ). pushed p c.args.link.0 n) (ap length (sym c.in-Ok-from_slice.ensures))) c.push-answer.ensures.after refl

pub invariant_of-self-else-taken-eq0 : goal.invariant_of-self-else-taken-eq0
invariant_of-self-else-taken-eq0 c =
    kept_call c.self.inside.course.unread.lines c.self.inside.answers c.self.inside.notes.items (ahead_of c.self.inside.course) c.self.inside.left c.self.invariant
    (note.Push c.args.link c.in-Ok-from_slice.piece c.push-answer.result) c.reserve.new.self.items c.push_reserved.new.self.items c.push-answer.new.self c.reserve.ensures.items c.push_reserved.ensures.items
    (λ p stands. c.push-answer.ensures.answer p stands ∙ ap (λ (n : ℕ). pushed p c.args.link.0 n) (ap length (sym c.in-Ok-from_slice.ensures))) c.push-answer.ensures.after refl

pub invariant_of-self-in-Again : goal.invariant_of-self-in-Again
invariant_of-self-in-Again c =
    kept_call c.self.inside.course.unread.lines c.self.inside.answers c.self.inside.notes.items (ahead_of c.self.inside.course) c.self.inside.left c.self.invariant
    (note.Push c.args.link c.in-Ok-from_slice.piece c.push-answer.result) c.reserve.new.self.items c.push_reserved.new.self.items c.push-answer.new.self c.reserve.ensures.items c.push_reserved.ensures.items
    (λ p stands. c.push-answer.ensures.answer p stands ∙ ap (λ (n : ℕ). pushed p c.args.link.0 n) (ap length (sym c.in-Ok-from_slice.ensures))) c.push-answer.ensures.after refl

pub invariant_of-self-in-Broken : goal.invariant_of-self-in-Broken
invariant_of-self-in-Broken c =
    kept_call c.self.inside.course.unread.lines c.self.inside.answers c.self.inside.notes.items (ahead_of c.self.inside.course) c.self.inside.left c.self.invariant
    (note.Push c.args.link c.in-Ok-from_slice.piece c.push-answer.result) c.reserve.new.self.items c.push_reserved.new.self.items c.push-answer.new.self c.reserve.ensures.items c.push_reserved.ensures.items
    (λ p stands. c.push-answer.ensures.answer p stands ∙ ap (λ (n : ℕ). pushed p c.args.link.0 n) (ap length (sym c.in-Ok-from_slice.ensures))) c.push-answer.ensures.after refl

pub returns-else-taken-eq0-clause-within : goal.returns-else-taken-eq0-clause-within
returns-else-taken-eq0-clause-within c =
    pushed_within (here c.self.inside.course.unread.lines c.self.inside.answers c.self.inside.notes.items (ahead_of c.self.inside.course) c.self.inside.left c.self.invariant) c.args.link.0 (length c.args.bytes.now) c.in-Took.taken
    (ap (λ (w : PushWord). word_answer w) (sym c.in-Took.is) ∙ c.push-answer.ensures.answer (here c.self.inside.course.unread.lines c.self.inside.answers c.self.inside.notes.items (ahead_of c.self.inside.course) c.self.inside.left c.self.invariant)
    (stands_here c.self.inside.course.unread.lines c.self.inside.answers c.self.inside.notes.items (ahead_of c.self.inside.course) c.self.inside.left c.self.invariant))
