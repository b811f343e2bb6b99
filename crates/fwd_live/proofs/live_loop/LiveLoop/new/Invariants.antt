use Rattle.fwd_live.proofs.live_loop.LiveLoop.new.Given as goal

abbrev pub ghost-new : goal.ghost-new
ghost-new g a = g.brought
