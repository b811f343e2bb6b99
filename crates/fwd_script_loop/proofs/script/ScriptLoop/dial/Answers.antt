use Rattle.std.proofs.Common.{refl}
use Rattle.fwd_script_loop.specs.declared.call_record.LoopNote.TheVariants as note
use Rattle.fwd_script_loop.specs.RunEvents.{ahead_of}
use Rattle.fwd_script_loop.proofs.PlayedCalls.{kept_call, kept_reserved}
use Rattle.fwd_script_loop.proofs.script.ScriptLoop.dial.Goals as goal

pub invariant_of-self-in_default-dial : goal.invariant_of-self-in_default-dial
invariant_of-self-in_default-dial c =
    kept_reserved c.self.inside.course.unread.lines c.self.inside.answers c.self.inside.notes.items (ahead_of c.self.inside.course) c.self.inside.left c.self.invariant
    c.reserve.new.self.items c.dial.new.self c.reserve.ensures.items c.in_default-dial.ensures.err

pub invariant_of-self-in-Some : goal.invariant_of-self-in-Some
invariant_of-self-in-Some c =
    kept_call c.self.inside.course.unread.lines c.self.inside.answers c.self.inside.notes.items (ahead_of c.self.inside.course) c.self.inside.left c.self.invariant
    (note.Dial c.args.output c.in-Ok-from_slice.tag c.in-Ok-dial.link) c.reserve.new.self.items c.push_reserved.new.self.items c.dial.new.self c.reserve.ensures.items c.push_reserved.ensures.items
    c.in-Ok-dial.ensures.answer c.in-Ok-dial.ensures.after refl

pub invariant_of-self-in-None : goal.invariant_of-self-in-None
invariant_of-self-in-None c =
    kept_call c.self.inside.course.unread.lines c.self.inside.answers c.self.inside.notes.items (ahead_of c.self.inside.course) c.self.inside.left c.self.invariant
    (note.Dial c.args.output c.in-Ok-from_slice.tag c.in-Ok-dial.link) c.reserve.new.self.items c.push_reserved.new.self.items c.dial.new.self c.reserve.ensures.items c.push_reserved.ensures.items
    c.in-Ok-dial.ensures.answer c.in-Ok-dial.ensures.after refl
