use Rattle.std.proofs.Common.{◌≡◌, false, sym, ◌∙◌}
use Rattle.fwd_replay.specs.RunState.{is_out_of_memory}
use Rattle.fwd_replay.proofs.RunStart.{on_ok}
use Rattle.fwd_replay.proofs.Handover.{turn_cut}
use Rattle.fwd_replay.proofs.life.cut_turn.Goals as goal

pub returns : goal.returns
returns g c s begins planned ready =
    let had : is_out_of_memory c.take.result ≡ false = sym c.is_out_of_memory.ensures ∙ c.if-is_out_of_memory.false in
    on_ok c.crash.result
    (λ crashed.
    turn_cut s begins planned c.args.going.now c.args.disk.now c.args.files.now c.args.keeper.now c.args.cut ready c.take.new.going c.take.new.disk c.take.new.files c.take.result (c.take.ensures.turns s ready.history ready.at had) had c.take.ensures.files
    c.args.most c.record_len-since.result c.crash.new.disk c.crash.new.files c.crash.new.keeper c.requires c.take.ensures.taken c.take.ensures.played c.record_len-since.ensures crashed.0 crashed.1 crashed.2)
    c.crash.ensures
