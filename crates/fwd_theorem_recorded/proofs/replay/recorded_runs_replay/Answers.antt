use Rattle.fwd_theorem_recorded.proofs.PrintedReplay.{replays_the_run}
use Rattle.fwd_theorem_recorded.proofs.RecordedRun.{replay_seen}
use Rattle.fwd_theorem_recorded.proofs.ReplayNeeds.{needs_of}
use Rattle.fwd_theorem_recorded.proofs.ReplayedRun.{untailed_paths}
use Rattle.fwd_theorem_recorded.proofs.replay.recorded_runs_replay.Goals as goal

pub returns : goal.returns
returns c s ticks turns old new endless reported made sound run can unheld turns2 replayed shows unspent enough =
    let needs = needs_of c.disks_answer_as_in_memory.ensures s ticks turns run.recovery run.trace run.below run.handshakes run.result run.seen sound run.loads run.way run.is_seen can in
    replays_the_run s run.trace run.below run.result run.seen reported turns2 run.ended run.reports
    (λ replay comes is left. replay_seen s (untailed_paths s run.untailed) turns run.result endless run.ended ticks run.trace run.below run.handshakes run.seen run.way run.is_seen run.answers run.allowed run.new_links needs unheld turns2 replay comes is left)
    replayed shows unspent enough
