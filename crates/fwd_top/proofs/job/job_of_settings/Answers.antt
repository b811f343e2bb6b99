use Rattle.fwd_top.specs.Results.{case_of}
use Rattle.fwd_top.proofs.Calls.{schedule_asked}
use Rattle.fwd_top.proofs.job.job_of_settings.Goals as goal

pub returns-in-ToReplay-clause-calls : goal.returns-in-ToReplay-clause-calls
returns-in-ToReplay-clause-calls g c loaded =
    rw c.in-ToReplay.is (schedule_asked _ _ loaded c.args.settings c.in-ToReplay.schedule.now (case_of c.job_of_file.result) c.job_of_file.ensures.calls)
