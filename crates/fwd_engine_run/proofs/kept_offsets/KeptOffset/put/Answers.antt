use Rattle.std.proofs.Common.{◌∙◌}
use Rattle.fwd_engine_run.proofs.OneOffset.{to_be, is_put, isnt_put, unput}
use Rattle.fwd_engine_run.proofs.kept_offsets.KeptOffset.put.Goals as goal

pub returns-in-Err-Memory-clause-puts : goal.returns-in-Err-Memory-clause-puts
returns-in-Err-Memory-clause-puts g c others s h t next at path is =
    unput others _ _ s h t next c.args.engine.now c.args.self.now _ is at _ _ _ c.in-Err-Memory.field-0 c.in-Err-Memory.field-0-is c.in-Err-Memory.ensures.call_log

pub returns-in-Ok-clause-puts : goal.returns-in-Ok-clause-puts
returns-in-Ok-clause-puts g c others s h t next at path is =
    is_put others _ _ s h t next c.args.engine.now c.args.self.now _ is at c.in-Some.place
    (to_be s h t c.args.engine.now c.args.self.now c.settled-settled.result c.to_put.result at path is c.settled-settled.ensures c.to_put.ensures ∙ c.in-Some.is)
    c.as_slice.result.now c.as_slice-in-Some.result.now (c.as_slice.ensures, c.as_slice-in-Some.ensures) c.in-Ok.ensures.call_log

pub returns-in-Err-Failed-clause-puts : goal.returns-in-Err-Failed-clause-puts
returns-in-Err-Failed-clause-puts g c others s h t next at path is =
    isnt_put others _ _ s h t next c.args.engine.now c.args.self.now _ is at c.in-Some.place
    (to_be s h t c.args.engine.now c.args.self.now c.settled-settled.result c.to_put.result at path is c.settled-settled.ensures c.to_put.ensures ∙ c.in-Some.is)
    c.as_slice.result.now c.as_slice-in-Some.result.now (c.as_slice.ensures, c.as_slice-in-Some.ensures)
    c.in-Err-Failed.field-0 c.in-Err-Failed.field-0-is c.in-Err-Failed.ensures.call_log
