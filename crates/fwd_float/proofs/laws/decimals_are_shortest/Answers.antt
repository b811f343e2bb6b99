use Rattle.fwd_float.proofs.Fewest.{fewest, nearest}
use Rattle.fwd_float.proofs.laws.decimals_are_shortest.Goals as goal

pub returns-clause-fewest : goal.returns-clause-fewest
returns-clause-fewest c f bits is = fewest f bits is.some is.finite

pub returns-clause-nearest : goal.returns-clause-nearest
returns-clause-nearest c f bits is = nearest f bits is.some is.finite
