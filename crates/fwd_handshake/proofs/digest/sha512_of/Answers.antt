use Rattle.fwd_handshake.proofs.digest.sha512_of.Goals as goal

pub returns : goal.returns
returns c = c.finalize.ensures _ (c.update-4.ensures _ (c.update-3.ensures _ (c.update-2.ensures _ (c.update.ensures _ c.new-hasher.ensures))))
