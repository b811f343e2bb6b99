use Rattle.std.proofs.Common.{refl}
use Rattle.fwd_replay.proofs.recorded_run.RecorderKeepsEvents.events_kept.Goals as goal

pub returns : goal.returns
returns g c = record { recording = c.args.self.now; log_is = refl; recorded = c.is_recording.ensures; events = c.heard.ensures }
