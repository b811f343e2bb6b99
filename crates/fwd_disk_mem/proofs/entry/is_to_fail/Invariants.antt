use Rattle.std.proofs.Common.{◌≡◌, ◌+◌, ◌==◌, ℕ, false, take}
use Rattle.std.specs.List.{list_any}
use Rattle.fwd_disk_mem.proofs.entry.is_to_fail.Given as goal

abbrev pub invariant-loop-number : goal.invariant-loop-number
invariant-loop-number l = list_any (λ (number : ℕ). number == l.made + 1) (take l.number-index l.fails) ≡ false
