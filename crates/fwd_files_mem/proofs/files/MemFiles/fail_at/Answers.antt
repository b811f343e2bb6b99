use Rattle.std.proofs.Common.{arith}
use Rattle.fwd_files_mem.proofs.FilesInvariant.{number_kept}
use Rattle.fwd_files_mem.proofs.files.MemFiles.fail_at.Goals as goal

pub invariant_of-self-2 : goal.invariant_of-self-2
invariant_of-self-2 c =
    number_kept c.self.inside.given.entries c.self.inside.current.entries c.self.inside.current.entries c.self.inside.notes.items c.push_reserved.new.self.items c.self.inside.calls c.self.inside.fails.keys c.self.invariant c.args.call c.insert.new.self.keys
    c.in_ok-insert.ensures.updates.0 (grind (arith, c.push_reserved.ensures.items, c.in_ok-reserve.ensures.items))
