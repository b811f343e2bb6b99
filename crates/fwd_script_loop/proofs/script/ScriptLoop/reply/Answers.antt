use Rattle.std.proofs.Common.{refl, ap}
use Rattle.fwd_script_loop.specs.declared.call_record.LoopNote.TheVariants as note
use Rattle.fwd_script_loop.specs.RunEvents.{ahead_of}
use Rattle.fwd_script_loop.specs.Place.{taken_answer}
use Rattle.fwd_script_loop.proofs.PlayedCalls.{kept_call}
use Rattle.fwd_script_loop.proofs.script.ScriptLoop.reply.Goals as goal

pub invariant_of-self-then-taken : goal.invariant_of-self-then-taken
invariant_of-self-then-taken c =
    kept_call c.self.inside.course.unread.lines c.self.inside.answers c.self.inside.notes.items (ahead_of c.self.inside.course) c.self.inside.left c.self.invariant
    (note.Reply c.args.conn c.in-Ok-from_slice.bytes c.reply-taken.result) c.reserve.new.self.items c.push_reserved.new.self.items c.reply-taken.new.self c.reserve.ensures.items c.push_reserved.ensures.items
    (λ p stands. ap taken_answer (c.reply-taken.ensures.answer p stands)) c.reply-taken.ensures.after refl

pub invariant_of-self-else-taken : goal.invariant_of-self-else-taken
invariant_of-self-else-taken c =
    kept_call c.self.inside.course.unread.lines c.self.inside.answers c.self.inside.notes.items (ahead_of c.self.inside.course) c.self.inside.left c.self.invariant
    (note.Reply c.args.conn c.in-Ok-from_slice.bytes c.reply-taken.result) c.reserve.new.self.items c.push_reserved.new.self.items c.reply-taken.new.self c.reserve.ensures.items c.push_reserved.ensures.items
    (λ p stands. ap taken_answer (c.reply-taken.ensures.answer p stands)) c.reply-taken.ensures.after refl
