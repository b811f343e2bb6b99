use Rattle.std.proofs.Common.{length, refl, ap, arith}
use Rattle.std.proofs.lemmas.List.{length-map}
use Rattle.std.proofs.lemmas.Option.{slice_get_read, slice_get-map}
use Rattle.fwd_value.specs.View.{pair_of}
use Rattle.fwd_value.proofs.Edits.{map-remove}
use Rattle.fwd_value.proofs.value.Pairs.remove.Goals as goal

pub returns-clause-left : goal.returns-clause-left
returns-clause-left c = rw (← c.self.view_is, c.remove.ensures.items) (map-remove pair_of c.self.inside.items.items c.args.index)

pub returns-clause-taken : goal.returns-clause-taken
returns-clause-taken c =
    let items = c.self.inside.items.items in
    let taken = slice_get_read items (length items) c.args.index c.remove.result refl (omega (arith, c.requires, ap length c.self.view_is, length-map items pair_of)) c.remove.ensures.value in
    rw (← c.self.view_is, slice_get-map pair_of items c.args.index, taken) refl
