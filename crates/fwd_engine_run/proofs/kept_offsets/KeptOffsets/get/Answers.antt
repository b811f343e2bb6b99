use Rattle.fwd_theorem_trace.proofs.Run.{loading_is_start}
use Rattle.fwd_engine_run.proofs.kept_offsets.KeptOffsets.get.Goals as goal

pub returns-in-Ok-All-clause-gets : goal.returns-in-Ok-All-clause-gets
returns-in-Ok-All-clause-gets g c others s h failed next at loading keeps =
    let got = rw c.in-Ok-All.field-0-is at (c.in-Ok-All.ensures.gets others s h failed next at (loading_is_start h loading) keeps) in
    (got.0, got.1, c.take_settled.ensures s got.0 got.1 got.2 keeps, got.3)

pub returns-in-Ok-Failed-clause-gets : goal.returns-in-Ok-Failed-clause-gets
returns-in-Ok-Failed-clause-gets g c others s h failed next at loading keeps = rw c.in-Ok-Failed.field-0-is at (c.in-Ok-Failed.ensures.gets others s h failed next at (loading_is_start h loading) keeps)

pub returns-in-Err-clause-gets : goal.returns-in-Err-clause-gets
returns-in-Err-clause-gets g c others s h failed next at loading keeps = c.in-Err.ensures.gets others s h failed next at (loading_is_start h loading) keeps
