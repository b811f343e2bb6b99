use Rattle.std.proofs.Common.{sym, subst}
use Rattle.fwd_outside.specs.Log.{RunsFallible}
use Rattle.fwd_outside.specs.Disk.{disk_outcome}
use Rattle.fwd_outside.proofs.DiskPrograms.{removed}
use Rattle.fwd_chunk.specs.declared.kept.Kept.{Kept}
use Rattle.fwd_chunk.specs.Kept.{remove_program}
use Rattle.fwd_chunk.proofs.kept.Kept.remove.Goals as goal

pub returns-in-InFile-clause-calls : goal.returns-in-InFile-clause-calls
returns-in-InFile-clause-calls g c =
    subst (λ (k : Kept). RunsFallible (g.D.Disk.call_log c.args.disk.now) (g.D.Disk.call_log c.remove.new.self) (remove_program k) (disk_outcome c.remove.result)) (sym c.in-InFile.is)
    ((removed c.as_slice.ensures c.remove.ensures.call_log).makes)

pub returns-in-Adopted-clause-calls : goal.returns-in-Adopted-clause-calls
returns-in-Adopted-clause-calls g c =
    subst (λ (k : Kept). RunsFallible (g.D.Disk.call_log c.args.disk.now) (g.D.Disk.call_log c.remove-in-Adopted.new.self) (remove_program k) (disk_outcome c.remove-in-Adopted.result)) (sym c.in-Adopted.is)
    ((removed c.as_slice-in-Adopted.ensures c.remove-in-Adopted.ensures.call_log).makes)
