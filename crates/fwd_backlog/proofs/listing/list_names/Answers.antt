use Rattle.fwd_outside.specs.Disk.{lists}
use Rattle.fwd_backlog.specs.LoadResult.{load_error_of}
use Rattle.fwd_backlog.proofs.Calls.{list_error, given_err}
use Rattle.fwd_backlog.proofs.listing.list_names.Goals as goal

pub returns-in_err-list-clause-calls : goal.returns-in_err-list-clause-calls
returns-in_err-list-clause-calls g c =
    let folder = c.args.folder.now in
    let e = c.in_err-list.field-0.0 in
    given_err _ _ (lists folder) (load_error_of e) c.from_residual.result c.from_residual.ensures.1 (list_error _ _ folder e c.in_err-list.ensures.call_log)
