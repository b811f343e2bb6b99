use Rattle.fwd_engine.proofs.engine.Engine.settled.Goals as goal

pub returns : goal.returns
returns c s h at = c.settled.ensures s h at.shows.followed_files
