use Rattle.std.proofs.Common.{Some}
use Rattle.fwd_top.specs.Results.{case_of}
use Rattle.fwd_top.specs.Views.{wanted_of}
use Rattle.fwd_top.proofs.Calls.{settings_run, refused_settings_so, come, are_so}
use Rattle.fwd_top.proofs.job.job_of_sections.Goals as goal

pub returns-in-Ok-clause-asks : goal.returns-in-Ok-clause-asks
returns-in-Ok-clause-asks g c =
    settings_run _ _ c.args.sections.now (wanted_of c.args.wanted) c.in-Ok.settings (case_of c.job_of_settings.result)
    (are_so c.args.sections.now c.in-Ok.settings (case_of c.job_of_settings.result) (come c.args.sections.now c.in-Ok.settings c.in-Ok.ensures.meaning)) (c.job_of_settings.ensures.calls (Some c.args.sections.now))

pub returns-in-Err-clause-asks : goal.returns-in-Err-clause-asks
returns-in-Err-clause-asks g c = refused_settings_so (g.F.Files.call_log c.args.files.now) (g.F.Files.call_log c.args.files.now) c.args.sections.now (wanted_of c.args.wanted) c.in-Err.fault c.refused_settings.result c.refused_settings.ensures.status c.in-Err.ensures.meaning
