use Rattle.fwd_secure.proofs.secure_loop.SecureLoop.mark.Given as goal

abbrev pub ghost-new : goal.ghost-new
ghost-new g a = tt

abbrev pub ghost-then : goal.ghost-then
ghost-then g a = record { call_log = g.L.Loop.call_log a._note.now; counts = g.L.Loop.counts a._note.now; faults = g.L.Loop.faults a._note.now }
