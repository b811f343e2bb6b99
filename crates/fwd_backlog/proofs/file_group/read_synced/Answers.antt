use Rattle.std.proofs.Common.{Some}
use Rattle.fwd_outside.proofs.Executions.{call_runs}
use Rattle.fwd_outside.specs.Disk.{Sync, Read}
use Rattle.fwd_chunk.specs.Check.{enough_bytes}
use Rattle.fwd_backlog.specs.LoadResult.{load_error_of}
use Rattle.fwd_backlog.proofs.Calls.{sync_error, read_error}
use Rattle.fwd_backlog.proofs.Files.{sync_stopped, read_stopped, synced_read}
use Rattle.fwd_backlog.proofs.file_group.read_synced.Goals as goal

pub returns-in_err-sync-clause-calls : goal.returns-in_err-sync-clause-calls
returns-in_err-sync-clause-calls g c =
    let path = c.args.path.now in
    let e = c.in_err-sync.field-0.0 in
    sync_stopped _ _ path (load_error_of e) c.from_residual.result c.from_residual.ensures.1 (sync_error _ _ path e c.in_err-sync.ensures.call_log)

pub returns-in_err-read-clause-calls : goal.returns-in_err-read-clause-calls
returns-in_err-read-clause-calls g c =
    let path = c.args.path.now in
    let e = c.in_err-read.field-0.0 in
    read_stopped _ _ path _ (load_error_of e) c.from_residual-in_err-read.result c.from_residual-in_err-read.ensures.1
    (call_runs _ _ (Sync path) (Some (Some tt)) c.in_ok-sync.ensures.call_log) (read_error _ _ path 0 enough_bytes e c.in_err-read.ensures.call_log)

pub returns-clause-calls : goal.returns-clause-calls
returns-clause-calls g c =
    let path = c.args.path.now in
    synced_read _ _ path _ c.in_ok-read.field-0 (call_runs _ _ (Sync path) (Some (Some tt)) c.in_ok-sync.ensures.call_log)
    (call_runs _ _ (Read path 0 enough_bytes) (Some (Some c.in_ok-read.field-0)) c.in_ok-read.ensures.call_log)
