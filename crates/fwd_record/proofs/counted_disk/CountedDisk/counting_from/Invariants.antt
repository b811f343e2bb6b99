use Rattle.fwd_record.proofs.counted_disk.CountedDisk.counting_from.Given as goal

abbrev pub ghost-new : goal.ghost-new
ghost-new g a = tt

abbrev pub ghost-then : goal.ghost-then
ghost-then g a = g.D.Disk.call_log a._note.now.now

abbrev pub ghost-new-2 : goal.ghost-new-2
ghost-new-2 g a = tt
