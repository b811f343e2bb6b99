use Rattle.std.proofs.Common.{◌≡◌, ◌++◌, take, map}
use Rattle.fwd_disk_mem.specs.declared.entry.MemEntry.TheVariants as mem_entry
use Rattle.fwd_script.specs.declared.schedule.Stored.{Stored}
use Rattle.fwd_replay.proofs.start.store.Given as goal

abbrev pub invariant-loop-file : goal.invariant-loop-file
invariant-loop-file l = l.disk ≡ record l.fn.disk { calls = l.fn.disk.calls ++ map (λ (file : Stored). mem_entry.Preset file.name file.bytes) (take l.file-index l.file-items) }
