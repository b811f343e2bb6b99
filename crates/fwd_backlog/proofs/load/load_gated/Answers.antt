use Rattle.fwd_backlog.proofs.FileLength.{loaded_fit}
use Rattle.fwd_backlog.proofs.LoadClauses.{found_after, no_more_since}
use Rattle.fwd_backlog.proofs.load.load_gated.Goals as goal

pub returns-clause-found : goal.returns-clause-found
returns-clause-found g c = found_after _ _ c.args.root.now c.load.result c.load.ensures.loaded

pub returns-clause-any_moment : goal.returns-clause-any_moment
returns-clause-any_moment g c = no_more_since _ _ c.args.root.now c.load.result c.load.ensures.loaded

pub returns-clause-lengths : goal.returns-clause-lengths
returns-clause-lengths g c = loaded_fit _ _ c.args.root.now c.load.result c.load.ensures.loaded
