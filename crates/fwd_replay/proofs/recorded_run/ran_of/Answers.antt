use Rattle.std.proofs.Common.{Bool, ap, subst}
use Rattle.fwd_replay.specs.RecordedParts.{IsLost, IsUnlessOut}
use Rattle.fwd_replay.specs.declared.report.Reported.{Reported}
use Rattle.fwd_replay.specs.declared.recorded_run.Ran.TheVariants as ran
use Rattle.fwd_replay.proofs.RecordedNotes.{comes_so}
use Rattle.fwd_replay.proofs.recorded_run.ran_of.Goals as goal

pub returns-in-Ok : goal.returns-in-Ok
returns-in-Ok g c = comes_so c.args.recorder.now c.args.disk.now.failed c.args.outcome c.unless_out.result c.in-Ok.told c.ran_with_text.result (subst (λ (b : Bool). IsUnlessOut b c.args.outcome c.unless_out.result) c.is_out_of_memory.ensures c.unless_out.ensures) c.in-Ok.is c.ran_with_text.ensures

pub returns-in-Err : goal.returns-in-Err
returns-in-Err g c = IsLost (ap (λ (r : Reported). ran.Unrecorded r) c.without_text.ensures)
