use Rattle.fwd_files_mem.proofs.FilePaths.{copies_last}
use Rattle.fwd_files_mem.proofs.files.copy_of.Goals as goal

pub loop-path-preserved-in_ok-insert : goal.loop-path-preserved-in_ok-insert
loop-path-preserved-in_ok-insert c =
    copies_last c.args.files.now.entries c.loop-path.rest c.next_back.new.self c.in-Some.path.now c.in_ok-try_clone.field-0 c.in-Some.bytes.now c.in_ok-try_clone-2.field-0 c.loop-path.copy.entries c.insert.new.self.entries
    c.loop-path.invariant c.in-Some.ensures.steps c.in_ok-try_clone.ensures c.in_ok-try_clone-2.ensures c.in_ok-insert.ensures.updates.0

pub loop-path-preserved : goal.loop-path-preserved
loop-path-preserved c =
    copies_last c.args.files.now.entries c.loop-path.rest c.next_back.new.self c.in-Some.path.now c.in_ok-try_clone.field-0 c.in-Some.bytes.now c.in_ok-try_clone-2.field-0 c.loop-path.copy.entries c.insert.new.self.entries
    c.loop-path.invariant c.in-Some.ensures.steps c.in_ok-try_clone.ensures c.in_ok-try_clone-2.ensures c.in_ok-insert.ensures.updates.0
