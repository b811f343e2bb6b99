use Rattle.fwd_replay.proofs.RecordedNotes.{schedule_stopped, schedule_unstopped}
use Rattle.fwd_replay.proofs.recorded_run.recorded_schedule.Goals as goal

pub returns-in-Some : goal.returns-in-Some
returns-in-Some g c = λ calls seen is by.
    schedule_stopped c.stopped_schedule_of.result c.args.recorder.now.seen c.args.disk.now.failed c.in-Some.heard c.stopped_schedule_of.ensures.schedule c.stopped_schedule_of.ensures.writable calls seen is (rw c.in-Some.is at by)

pub returns-in-None : goal.returns-in-None
returns-in-None g c = λ calls seen is by.
    schedule_unstopped c.schedule_of.result c.args.recorder.now.seen c.args.disk.now.failed c.schedule_of.ensures.schedule c.schedule_of.ensures.writable calls seen is (rw c.in-None.is at by)
