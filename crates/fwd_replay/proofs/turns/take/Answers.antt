use Rattle.std.proofs.Common.{◌+◌}
use Rattle.fwd_replay.specs.RunState.{nowhere}
use Rattle.fwd_replay.proofs.KeyedTurns.{took_turn}
use Rattle.fwd_replay.proofs.TurnCalls.{took_unless}
use Rattle.fwd_replay.proofs.turns.take.Goals as goal

pub returns-clause-turns : goal.returns-clause-turns
returns-clause-turns g c s h at =
    took_turn s h c.args.going.now c.args.disk.now c.args.files.now (record c.args.going.now { engine = c.turn-turn.new.self; secure = c.turn-turn.new.outside; taken = c.args.going.now.taken + 1 }) c.turn-turn.new.disk c.turn-turn.new.files c.turn-turn.result c.checked.result c.is_secure.ensures c.is_secure-2.ensures
    c.lemma_script_plays.ensures c.checked.ensures.memory c.checked.ensures.result (c.turn-turn.ensures.turns nowhere s h at)

pub returns-clause-turned : goal.returns-clause-turned
returns-clause-turned g c s start planned ready =
    took_unless s start planned c.args.going.now c.args.disk.now c.args.files.now c.args.keeper.now ready c.turn-turn.new.self c.turn-turn.new.outside c.turn-turn.new.disk c.turn-turn.new.files c.is_played-2.ensures c.checked.result
    (returns-clause-turns g c s ready.history ready.at)

pub returns-clause-played : goal.returns-clause-played
returns-clause-played g c = record { disk = c.is_played.ensures; keeper = c.is_played-3.ensures }
