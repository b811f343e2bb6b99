use Rattle.std.proofs.Common.{Some}
use Rattle.fwd_top.specs.Results.{of_job, unless_memory}
use Rattle.fwd_top.proofs.GeneratedLoad.{comes_of_texts, load_done, load_refused, own_refusal}
use Rattle.fwd_top.proofs.job.job_of_texts.Goals as goal

pub returns-in-Ok-clause-comes : goal.returns-in-Ok-clause-comes
returns-in-Ok-clause-comes c count is =
    load_done count c.in-Ok.job c.with_reports.result c.with_reports.ensures.case
    (comes_of_texts count c.args.files.now c.job_of_config-job.new.files (Some (of_job c.in-Ok.job)) is c.in-Ok.ensures.asks c.is_played.ensures)

pub returns-in-Err-clause-comes : goal.returns-in-Err-clause-comes
returns-in-Err-clause-comes c count is =
    load_refused count c.in-Err.status (comes_of_texts count c.args.files.now c.job_of_config-job.new.files (unless_memory c.in-Err.status) is c.in-Err.ensures.asks c.is_played.ensures)

pub returns-in-Err-clause-refusal : goal.returns-in-Err-clause-refusal
returns-in-Err-clause-refusal c count is =
    own_refusal count c.in-Err.status c.in-Err.ensures.refusal
    (load_refused count c.in-Err.status (comes_of_texts count c.args.files.now c.job_of_config-job.new.files (unless_memory c.in-Err.status) is c.in-Err.ensures.asks c.is_played.ensures))
