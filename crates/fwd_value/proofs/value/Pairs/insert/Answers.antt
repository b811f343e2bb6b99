use Rattle.fwd_value.specs.View.{pair_of}
use Rattle.fwd_value.proofs.Edits.{map-insert}
use Rattle.fwd_value.proofs.value.Pairs.insert.Goals as goal

pub returns-clause-ok : goal.returns-clause-ok
returns-clause-ok c = rw (← c.self.view_is, c.in_ok-insert.ensures.items) (map-insert pair_of c.self.inside.items.items c.args.index c.args.pair)
