use Rattle.std.proofs.Common.{None}
use Rattle.fwd_model.specs.CallLogs.{Completes}
use Rattle.fwd_model.specs.RecoveryActions.{recovers}
use Rattle.fwd_replay.proofs.RunStart.{load_fails, quiet, recovered_so, seen_in}
use Rattle.fwd_replay.proofs.start.begin.Goals as goal

pub returns-in-Ok : goal.returns-in-Ok
returns-in-Ok g c begins planned held ready =
    let begun = c.in-Ok.ensures.begins (quiet planned) in
    c.resume.ensures c.args.settings begins planned begun.history c.begin.new.disk held (recovered_so c.args.settings begins planned c.args.disk.now c.begin.new.disk begun.history ready.disk begun.did c.is_played.ensures) begun.at
    c.requires.offsets ready.files ready.kept_given ready.kept_unasked

pub returns-in-Err-DiskFault : goal.returns-in-Err-DiskFault
returns-in-Err-DiskFault g c begins planned held ready =
    let did : Completes (seen_in planned c.args.disk.now.calls) (seen_in planned c.begin.new.disk.calls) (recovers c.args.settings) None = rw c.in-Err-DiskFault.field-0-is at (c.in-Err-DiskFault.ensures.begins (quiet planned)) in
    load_fails c.args.settings begins planned c.args.disk.now c.begin.new.disk held c.args.keeper.now ready did c.is_played-in-Err-DiskFault.ensures
