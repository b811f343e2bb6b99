use Rattle.std.proofs.Common.{sym, ◌∙◌}
use Rattle.fwd_replay.proofs.RunStart.{loop_starts}
use Rattle.fwd_replay.proofs.life.start_loop.Goals as goal

pub returns-else-is_out_of_memory : goal.returns-else-is_out_of_memory
returns-else-is_out_of_memory c s planned fresh =
    loop_starts s planned c.args.ends.now c.args.secure.now c.start-begun.new.self c.start-begun.result fresh c.start-begun.ensures.call_log c.is_secure-2.ensures (sym c.is_out_of_memory.ensures ∙ c.if-is_out_of_memory.false) c.lemma_script_plays.ensures
