use Rattle.std.proofs.lemmas.List.{map-set}
use Rattle.fwd_value.specs.View.{val_of}
use Rattle.fwd_value.proofs.value.Values.set.Goals as goal

pub returns : goal.returns
returns c = rw (← c.self.view_is) (map-set val_of c.self.inside.items.items c.args.index c.args.value)
