use Rattle.fwd_engine_run.proofs.EventCounts.{events_to_end}
use Rattle.fwd_engine_run.proofs.RunParts.{ends_run, finishes_run}
use Rattle.fwd_engine_run.proofs.run_loop.run.Goals as goal

pub returns-in-Ok-Ended-clause-runs : goal.returns-in-Ok-Ended-clause-runs
returns-in-Ok-Ended-clause-runs g c others s h at loading keeps =
    ends_run _ _ s c.args.ends.now c.args.ticks c.args.most h c.run_to_last.new.engine c.in-Ok-Ended.end (rw c.in-Ok-Ended.field-0-is at (c.in-Ok-Ended.ensures.runs others s h at loading keeps))

pub returns-in-Ok-AtLast-clause-runs : goal.returns-in-Ok-AtLast-clause-runs
returns-in-Ok-AtLast-clause-runs g c others s h at loading keeps =
    let paused = rw c.in-Ok-AtLast.field-0-is at (c.in-Ok-AtLast.ensures.runs others s h at loading keeps) in
    finishes_run _ _ s c.args.ends.now c.args.ticks c.args.most h _ c.run_to_last.new.engine c.finish.new.engine c.run_to_last.new.offsets c.in-Ok-AtLast.left c.finish.result paused
    (c.finish.ensures.runs others s paused.now paused.at paused.keeps)

pub returns-in-Ok-AtLast-clause-heard : goal.returns-in-Ok-AtLast-clause-heard
returns-in-Ok-AtLast-clause-heard g c =
    events_to_end c.args.most c.in-Ok-AtLast.left c.finish.result (rw c.in-Ok-AtLast.field-0-is at c.in-Ok-AtLast.ensures.heard) c.finish.ensures.heard

pub returns-in-Err-clause-runs : goal.returns-in-Err-clause-runs
returns-in-Err-clause-runs g c others s h at loading keeps = c.in-Err.ensures.runs others s h at loading keeps
