use Rattle.std.proofs.Common.{◌∙◌, List, ℕ, subst}
use Rattle.fwd_outside.proofs.Executions.{no_call_made}
use Rattle.fwd_outside.specs.Disk.{Sync}
use Rattle.fwd_backlog.specs.declared.error.LoadErr.TheVariants.{Memory}
use Rattle.fwd_backlog.specs.LoadResult.{LoadReturns}
use Rattle.fwd_backlog.specs.Listing.{path_of}
use Rattle.fwd_backlog.specs.LoadProgram.{read_synced_program}
use Rattle.fwd_backlog.proofs.Calls.{asks_unfailed, rests, given_err}
use Rattle.fwd_backlog.proofs.file_group.read_bytes.Goals as goal

pub returns-in_err-path-clause-calls : goal.returns-in_err-path-clause-calls
returns-in_err-path-clause-calls g c =
    let path = path_of c.args.root.now c.args.file.now in
    let program = read_synced_program path in
    given_err _ _ program Memory c.from_residual.result c.from_residual.ensures.1 (rests _ _ program program (no_call_made _ program) (asks_unfailed (Sync path) _))

pub returns-clause-calls : goal.returns-clause-calls
returns-clause-calls g c =
    subst (λ (path : List ℕ). LoadReturns (g.D.Disk.call_log c.args.disk.now) (g.D.Disk.call_log c.read_synced.new.disk) (read_synced_program path) c.read_synced.result) (c.as_slice.ensures ∙ c.in_ok-path.ensures) c.read_synced.ensures.calls
