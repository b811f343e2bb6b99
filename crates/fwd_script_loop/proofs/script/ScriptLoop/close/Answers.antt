use Rattle.std.proofs.Common.{refl}
use Rattle.fwd_script_loop.specs.declared.call_record.LoopNote.TheVariants as note
use Rattle.fwd_script_loop.specs.RunEvents.{ahead_of}
use Rattle.fwd_script_loop.proofs.PlayedCalls.{kept_call}
use Rattle.fwd_script_loop.proofs.script.ScriptLoop.close.Goals as goal

pub invariant_of-self-2 : goal.invariant_of-self-2
invariant_of-self-2 c =
    kept_call c.self.inside.course.unread.lines c.self.inside.answers c.self.inside.notes.items (ahead_of c.self.inside.course) c.self.inside.left c.self.invariant
    (note.Close c.args.link) c.reserve.new.self.items c.push_reserved.new.self.items c.close.new.self c.reserve.ensures.items c.push_reserved.ensures.items
    (λ p stands. refl) c.close.ensures.after refl
