use Rattle.fwd_engine_run.proofs.OffsetActions.{is_done}
use Rattle.fwd_replay.specs.RunState.{nowhere}
use Rattle.fwd_replay.proofs.TurnCalls.{puts_so}
use Rattle.fwd_replay.proofs.turns.put_offsets.Goals as goal

pub returns-clause-put : goal.returns-clause-put
returns-clause-put c s start planned seen held which stepped =
    puts_so s start planned c.args.going.now seen held c.args.keeper.now c.put.new.keeper c.put.new.self which stepped c.put.result (c.put.ensures.puts nowhere s stepped.history is_done stepped.at stepped.keeps)
