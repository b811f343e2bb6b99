use Rattle.fwd_top.proofs.Calls.{file_read, file_failed, file_wanting}
use Rattle.fwd_top.proofs.job.job_of_file.Goals as goal

pub returns-in-Ok-clause-calls : goal.returns-in-Ok-clause-calls
returns-in-Ok-clause-calls g c = file_read _ _ c.args.settings c.args.path.now c.in-Ok.bytes c.job_of_text.result c.in-Ok.ensures.calls (rw c.as_slice.ensures at c.job_of_text.ensures.judged)

pub returns-in-Err-Failed-clause-calls : goal.returns-in-Err-Failed-clause-calls
returns-in-Err-Failed-clause-calls g c = file_failed _ _ c.args.settings c.args.path.now (rw c.in-Err-Failed.field-0-is at c.in-Err-Failed.ensures.calls)

pub returns-clause-calls : goal.returns-clause-calls
returns-clause-calls g c = file_wanting _ _ c.args.settings c.args.path.now (rw c.in-Err-Memory.field-0-is at c.in-Err-Memory.ensures.calls)
