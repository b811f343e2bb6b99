use Rattle.std.proofs.Common.{◌≡◌, ◌+◌, ◌-◌, ◌<◌, ◌≤◌}
use Rattle.fwd_replay.proofs.LoadLines.{so_far}
use Rattle.fwd_replay.proofs.load.schedule.Given as goal

abbrev pub invariant-loop-number : goal.invariant-loop-number
invariant-loop-number l = (0 < l.number) × (l.number ≤ l.count + 1) × (l.text ≡ so_far (l.number - 1))
