use Rattle.fwd_record.proofs.recorder.Recorder.new.Given as goal

abbrev pub ghost-new : goal.ghost-new
ghost-new g a = tt

abbrev pub ghost-then : goal.ghost-then
ghost-then g a = record { call_log = g.L.Loop.call_log a._note.now.now; counts = g.L.Loop.counts a._note.now.now; faults = g.L.Loop.faults a._note.now.now }

abbrev pub ghost-new-2 : goal.ghost-new-2
ghost-new-2 g a = tt
