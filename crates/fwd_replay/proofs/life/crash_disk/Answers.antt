use Rattle.fwd_replay.proofs.life.crash_disk.Goals as goal

pub returns : goal.returns
returns c = record { files = c.in_ok-image.ensures.fresh.0.0; is = c.in_ok-image.ensures.fresh.0.1; picks = c.in_ok-image.ensures.picked }
