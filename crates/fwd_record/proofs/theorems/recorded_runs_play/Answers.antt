use Rattle.fwd_record.proofs.RecordedLines.{recorded_plays}
use Rattle.fwd_record.proofs.theorems.recorded_runs_play.Goals as goal

pub returns : goal.returns
returns c = λ endless seen failed until paused allowed new few can. recorded_plays endless seen failed until paused allowed new few can
