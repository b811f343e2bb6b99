use Rattle.std.proofs.Common.{◌≡◌, ℕ, ◌++◌, take, map}
use Rattle.fwd_disk_mem.specs.declared.entry.MemEntry.TheVariants as mem_entry
use Rattle.fwd_replay.proofs.start.set_failing_disk_calls.Given as goal

abbrev pub invariant-loop-number : goal.invariant-loop-number
invariant-loop-number l = l.disk ≡ record l.fn.disk { calls = l.fn.disk.calls ++ map (λ (number : ℕ). mem_entry.FailAt number) (take l.number-index l.number-items) }
