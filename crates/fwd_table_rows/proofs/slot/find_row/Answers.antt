use Rattle.std.proofs.Common.{sym, ◌∙◌, ap}
use Rattle.fwd_table_rows.specs.declared.slot.Slot.{Slot}
use Rattle.fwd_table_rows.proofs.ChunkRows.{none_at}
use Rattle.fwd_table_rows.proofs.SlotChanges.{others_stand, row_there}
use Rattle.fwd_table_rows.proofs.slot.find_row.Goals as goal

pub returns-in_err-place : goal.returns-in_err-place
returns-in_err-place c =
    let places = c.args.places.now.items in
    rw c.from_residual.ensures (sym (none_at c.args.chunk _ (others_stand c.args.chunk places c.in_err-place.ensures c.requires.own)))

pub returns : goal.returns
returns c =
    let places = c.args.places.now.items in
    let there = c.in_ok-place.ensures in
    let place = c.index.result.now in
    c.as_ref.ensures.value ∙ ap (λ (p : Slot). p.row) c.index.ensures ∙ sym (row_there c.args.chunk place places c.in_ok-place.place c.requires.numbers c.requires.own there.0 (there.1 place))
