use Rattle.std.proofs.Common.{length, ap, arith}
use Rattle.std.proofs.lemmas.List.{length-map}
use Rattle.fwd_value.specs.View.{pair_of}
use Rattle.fwd_value.proofs.Edits.{replaces_key}
use Rattle.fwd_value.proofs.value.Pairs.set_key.Goals as goal

pub returns : goal.returns
returns c =
    let items = c.self.inside.items.items in
    rw (← c.self.view_is) (replaces_key items c.args.index c.index_mut.result.now c.args.key c.index_mut.ensures.value (omega (arith, c.requires, ap length c.self.view_is, length-map items pair_of)))
