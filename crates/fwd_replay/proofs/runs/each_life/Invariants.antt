use Rattle.std.proofs.Common.{◌≡◌, drop}
use Rattle.fwd_replay.specs.Runs.{Start}
use Rattle.fwd_replay.specs.RunState.{DevicesAreReady}
use Rattle.fwd_replay.proofs.RunChain.{Continues}
use Rattle.fwd_replay.proofs.runs.each_life.Given as goal

-- the runs so far were cut, and the outcome of the rest is the outcome of all
abbrev pub invariant-loop-life : goal.invariant-loop-life
invariant-loop-life g l =
    record {
      same : l.settings ≡ l.fn.settings;
      start : Start;
      finds : DevicesAreReady start l.between.disk l.between.files l.between.keeper;
      goes : Continues l.fn.named.shown l.fn.settings l.fn.between.left l.fn.lives l.text l.between.cut l.between.left start (drop l.life-index l.fn.lives);
    }
