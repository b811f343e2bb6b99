use Rattle.fwd_theorem_recorded.proofs.SameRun.{same_run}
use Rattle.fwd_theorem_recorded.proofs.same_run.schedules_determine_runs.Goals as goal

pub returns : goal.returns
returns c s turns turns2 start planned trace trace2 comes comes2 one other left left2 = same_run s start planned turns turns2 trace trace2 comes comes2 one other left left2
