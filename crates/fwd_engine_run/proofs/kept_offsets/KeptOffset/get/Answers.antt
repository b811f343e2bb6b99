use Rattle.fwd_engine_run.proofs.OneOffset.{got_none, got_failed, got_place, got_begun, ungot, gets_end}
use Rattle.fwd_engine_run.specs.OneOffset.{gets_one}
use Rattle.std.proofs.Common.{Some}
use Rattle.fwd_engine_run.proofs.kept_offsets.KeptOffset.get.Goals as goal

pub returns-in_err-resume-in-Ok-Some-clause-gets : goal.returns-in_err-resume-in-Ok-Some-clause-gets
returns-in_err-resume-in-Ok-Some-clause-gets g c others s h t failed next at start is =
    gets_end _ _ s failed next (gets_one s t failed next h) _ _ c.from_residual.result c.from_residual.ensures.1
    (got_begun others _ _ s h t failed next c.args.self.now is c.as_slice.result.now c.as_slice-2.result.now (c.as_slice.ensures, c.as_slice-2.ensures) (Some (Some c.in-Ok-Some.place)) (rw c.in-Ok-Some.field-0-is at c.in-Ok-Some.ensures.call_log))

pub returns-in_ok-resume-in-Ok-Some-clause-gets : goal.returns-in_ok-resume-in-Ok-Some-clause-gets
returns-in_ok-resume-in-Ok-Some-clause-gets g c others s h t failed next at start is =
    got_place others _ _ s h t failed next c.args.self.now is c.as_slice.result.now c.as_slice-2.result.now (c.as_slice.ensures, c.as_slice-2.ensures) c.resume.new.self c.in-Ok-Some.place c.as_slice-in-Ok-Some.result.now c.as_slice-in-Ok-Some.ensures
    (c.in_ok-resume-in-Ok-Some.ensures s h at) start (rw c.in-Ok-Some.field-0-is at c.in-Ok-Some.ensures.call_log)

pub returns-in-Ok-None-clause-gets : goal.returns-in-Ok-None-clause-gets
returns-in-Ok-None-clause-gets g c others s h t failed next at start is =
    got_none others _ _ s h t failed next c.args.self.now is c.as_slice.result.now c.as_slice-2.result.now (c.as_slice.ensures, c.as_slice-2.ensures) c.args.engine.now at start (rw c.in-Ok-None.field-0-is at c.in-Ok-None.ensures.call_log)

pub returns-in-Err-Failed-clause-gets : goal.returns-in-Err-Failed-clause-gets
returns-in-Err-Failed-clause-gets g c others s h t failed next at start is =
    got_failed others _ _ s h t failed next c.args.self.now is c.as_slice.result.now c.as_slice-2.result.now (c.as_slice.ensures, c.as_slice-2.ensures) (rw c.in-Err-Failed.field-0-is at c.in-Err-Failed.ensures.call_log)

pub returns-in-Err-Memory-clause-gets : goal.returns-in-Err-Memory-clause-gets
returns-in-Err-Memory-clause-gets g c others s h t failed next at start is =
    ungot others _ _ s h t failed next c.args.self.now is c.as_slice.result.now c.as_slice-2.result.now (c.as_slice.ensures, c.as_slice-2.ensures) (rw c.in-Err-Memory.field-0-is at c.in-Err-Memory.ensures.call_log)
