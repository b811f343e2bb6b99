use Rattle.fwd_disk_mem.proofs.WriteChange.{wrote_changes}
use Rattle.fwd_disk_mem.proofs.entry.change.Goals as goal

pub returns-then-ok-clause-ok : goal.returns-then-ok-clause-ok
returns-then-ok-clause-ok c =
    rw (c.in-WriteAt.is, c.if-ok.true, ← c.as_slice-then-ok.ensures, ← c.as_slice-then-ok-2.ensures)
    (wrote_changes c.write.result c.args.files.now c.write.new.self c.as_slice-then-ok.result.now c.in-WriteAt.at c.as_slice-then-ok-2.result.now c.write.ensures.ok c.write.ensures.absent)
