use Rattle.fwd_config.specs.Variables.{environment}
use Rattle.fwd_top.specs.Results.{case_of}
use Rattle.fwd_top.specs.Views.{wanted_of}
use Rattle.fwd_top.proofs.Calls.{goes_behind, refused_config}
use Rattle.fwd_top.proofs.job.job_of_config.Goals as goal

pub returns-in-Ok-clause-asks : goal.returns-in-Ok-clause-asks
returns-in-Ok-clause-asks g c =
    goes_behind c.args.config.now (wanted_of c.args.wanted) (environment c.args.env.now) _ _ _ c.in-Ok.sections (case_of c.job_of_sections.result) c.in-Ok.ensures.calls c.job_of_sections.ensures.asks

pub returns-in-Err-clause-asks : goal.returns-in-Err-clause-asks
returns-in-Err-clause-asks g c =
    refused_config c.args.config.now (wanted_of c.args.wanted) (environment c.args.env.now) _ _ c.in-Err.fault c.refused_config.result c.refused_config.ensures.status c.in-Err.ensures.calls
