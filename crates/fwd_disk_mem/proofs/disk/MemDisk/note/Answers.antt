use Rattle.std.proofs.Common.{rules, sym, subst}
use Rattle.fwd_disk_mem.specs.DiskState.{Seen}
use Rattle.fwd_disk_mem.specs.Entry.{AnswerIs}
use Rattle.fwd_disk_mem.proofs.RecordStep.{noted, counts-le}
use Rattle.fwd_disk_mem.proofs.disk.MemDisk.note.Goals as goal

pub overflow_add-self : goal.overflow_add-self
overflow_add-self c =
    search (
      rules,
      counts-le c.self.inside.calls.items c.push_and_change.new.calls.items c.args.call c.self.inside.made c.calls_in-counts.result c.self.invariant.made_is c.calls_in-counts.ensures
          c.in_ok-push_and_change.ensures.calls_ok c.in_ok-push_and_change.ensures.counted,
    )

pub invariant_of-self-2 : goal.invariant_of-self-2
invariant_of-self-2 c =
    let gives = subst (λ (v : Seen). AnswerIs v.calls c.args.call) (sym c.self.view_is) c.requires.gives in
    noted c.self.inside.calls.items c.push_and_change.new.calls.items c.args.call c.self.inside.files c.push_and_change.new.files c.self.inside.fails.items c.self.inside.made c.calls_in-counts.result
    gives c.requires.no_number c.self.invariant c.in_ok-push_and_change.ensures.calls_ok c.in_ok-push_and_change.ensures.files_ok c.calls_in-counts.ensures
