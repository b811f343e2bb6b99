use Rattle.fwd_outside.specs.Program.{Return}
use Rattle.fwd_outside.proofs.Executions.{no_call_made}
use Rattle.fwd_outside.specs.Disk.{ListNames, lists}
use Rattle.fwd_backlog.specs.declared.error.LoadErr.TheVariants.{Memory}
use Rattle.fwd_backlog.specs.Listing.{folder_of}
use Rattle.fwd_backlog.proofs.Calls.{asks_unfailed, rests, given_err}
use Rattle.fwd_backlog.proofs.listing.list_folder.Goals as goal

pub returns-in_err-folder-clause-calls : goal.returns-in_err-folder-clause-calls
returns-in_err-folder-clause-calls g c =
    let folder = folder_of c.args.root.now c.args.stream.now in
    given_err _ _ (lists folder) Memory c.from_residual.result c.from_residual.ensures.1 (rests _ _ (lists folder) (lists folder) (no_call_made _ (lists folder)) (asks_unfailed (ListNames folder) (λ answer. Return answer)))
