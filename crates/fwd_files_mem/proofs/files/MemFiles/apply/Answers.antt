use Rattle.fwd_files_mem.proofs.FilesInvariant.{change_kept}
use Rattle.fwd_files_mem.proofs.files.MemFiles.apply.Goals as goal

pub invariant_of-self-in-Ok : goal.invariant_of-self-in-Ok
invariant_of-self-in-Ok c =
    change_kept c.self.inside.given.entries c.self.inside.current.entries c.apply_change.new.files.entries c.self.inside.notes.items c.push.new.self.items c.self.inside.calls c.self.inside.fails.keys c.self.invariant c.args.change.now _ c.in_ok-try_clone.ensures c.in_ok-push.ensures.items c.in-Ok.ensures.ok
