use Rattle.std.proofs.Common.{Some, subst, sym}
use Rattle.fwd_outside.specs.Program.{Return}
use Rattle.fwd_outside.proofs.DiskPrograms.{exits, no_memory}
use Rattle.fwd_chunk.specs.declared.kept.Kept.{Kept}
use Rattle.fwd_chunk.specs.Kept.{appends}
use Rattle.fwd_outside.specs.Log.{RunsFallible}
use Rattle.fwd_outside.specs.Disk.{disk_outcome}
use Rattle.fwd_chunk.proofs.kept.Kept.append.Goals as goal

pub returns-in_err-extend_from_slice-in-InMemory-clause-calls : goal.returns-in_err-extend_from_slice-in-InMemory-clause-calls
returns-in_err-extend_from_slice-in-InMemory-clause-calls g c =
    let call_log = g.D.Disk.call_log c.args.disk.now in
    subst (λ (kept : Kept). RunsFallible call_log call_log (appends kept c.args.batch.now c.args.full) (disk_outcome c.from_residual.result)) (sym c.in-InMemory.is)
    ((exits c.from_residual.result c.from_residual.ensures.1 (no_memory call_log (Return (Some (tt {0}))) (λ is. absurd (cc is)))).makes)
