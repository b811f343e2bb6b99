use Rattle.std.proofs.Common.{length, refl, ap, arith}
use Rattle.std.proofs.lemmas.List.{length-map}
use Rattle.std.proofs.lemmas.Option.{slice_get_read, slice_get-map}
use Rattle.fwd_value.specs.View.{val_of}
use Rattle.fwd_value.proofs.Edits.{map-remove}
use Rattle.fwd_value.proofs.value.Values.remove.Goals as goal

pub returns-clause-left : goal.returns-clause-left
returns-clause-left c = rw (← c.self.view_is, c.remove.ensures.items) (map-remove val_of c.self.inside.items.items c.args.index)

pub returns-clause-taken : goal.returns-clause-taken
returns-clause-taken c =
    let items = c.self.inside.items.items in
    let taken = slice_get_read items (length items) c.args.index c.remove.result refl (omega (arith, c.requires, ap length c.self.view_is, length-map items val_of)) c.remove.ensures.value in
    rw (← c.self.view_is, slice_get-map val_of items c.args.index, taken) refl
