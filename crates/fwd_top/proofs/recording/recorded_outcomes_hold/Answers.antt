use Rattle.fwd_settings.specs.Endpoints.{ends_of}
use Rattle.fwd_top.specs.Outcomes.{world}
use Rattle.fwd_top.specs.RecordedOutcome.{trace_of}
use Rattle.fwd_top.proofs.Recordings.{way_of, answers_of, delivered_of, reads_of, replays_of}
use Rattle.fwd_top.proofs.RunOffsets.{keeps_offsets}
use Rattle.fwd_top.proofs.recording.recorded_outcomes_hold.Goals as goal

pub returns : goal.returns
returns c turns s ticks old new went sound comes =
    let way = way_of s ticks turns (world old) (world new) old.endless went comes in
    let trace = trace_of s ticks turns (world old) (world new) old.endless went comes in
    record {
      comes = comes;
      sound = sound;
      delivered = delivered_of s ticks turns (world old) (world new) old.endless c.all_runs_keep_the_guarantee.ensures.live
          (λ trace left way links. c.broken_runs_keep_the_guarantee.ensures s (ends_of s) ticks turns trace left way links) went comes;
      safe = λ synced. record {
        files = λ start fresh. c.crash_points_are_safe.ensures s (ends_of s) ticks turns start trace way.0 sound synced fresh way.1;
        accepted = λ start fresh. c.accepted_batches_survive.ensures s (ends_of s) ticks turns start trace way.0 sound synced fresh way.1;
      };
      offsets = keeps_offsets c.put_offsets_are_passed.ensures c.kept_offsets_split_files.ensures c.runs_resume_at_kept_offsets.ensures.begun s (ends_of s) ticks turns trace way.0 way.1;
      records = λ start last known along. c.flushes_send_their_records.ensures s (ends_of s) ticks turns start trace way.0 last sound known way.1 along (answers_of s ticks turns (world old) (world new) old.endless went comes).bytes;
      reads = reads_of s ticks turns (world old) (world new) old.endless went comes;
      replays = replays_of s ticks turns (world old) (world new) old.endless c.recorded_runs_replay.ensures sound went comes;
    }
