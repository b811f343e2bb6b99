use Rattle.std.proofs.Common.{sym, ap, arith}
use Rattle.std.proofs.lemmas.List.Elements.{All-set}
use Rattle.fwd_table_rows.specs.declared.slot.Slot.{Slot}
use Rattle.fwd_table_rows.specs.Slots.{HasOwnRow}
use Rattle.fwd_table_rows.proofs.SlotSums.{held_at, summed_set}
use Rattle.fwd_table_rows.proofs.ChunkRows.{none_goes}
use Rattle.fwd_table_rows.proofs.SlotChanges.{clear_there, numbers_stay, others_stand}
use Rattle.fwd_table_rows.proofs.slot.clear_row.Goals as goal

pub clear-requires : goal.clear-requires
clear-requires c = record {
  held = held_at c.args.sums.now c.args.places.now.items c.in-Some.place c.index_mut.result.now c.requires.sums c.in-Some.ensures.0 c.index_mut.ensures.value;
}

pub returns-in-Some-clause-rows : goal.returns-in-Some-clause-rows
returns-in-Some-clause-rows c =
    let there = c.in-Some.ensures in
    let old = c.index_mut.result.now in
    rw (c.clear.ensures.place, c.index_mut.ensures.value) (sym (clear_there c.args.chunk old c.args.places.now.items c.in-Some.place c.requires.numbers c.requires.own there.0 (there.1 old)))

pub returns-in-Some-clause-numbers : goal.returns-in-Some-clause-numbers
returns-in-Some-clause-numbers c =
    let old = c.index_mut.result.now in
    numbers_stay c.args.places.now.items c.in-Some.place c.clear.new.self old c.in-Some.ensures.0 (rw c.clear.ensures.place (ap (λ (p : Slot). p.chunk.0) c.index_mut.ensures.value)) c.requires.numbers

pub returns-in-Some-clause-own : goal.returns-in-Some-clause-own
returns-in-Some-clause-own c = All-set HasOwnRow c.args.places.now.items c.in-Some.place c.clear.new.self (rw c.clear.ensures.place tt) c.requires.own

pub returns-in-Some-clause-sums : goal.returns-in-Some-clause-sums
returns-in-Some-clause-sums c counted key below =
    let step = c.clear.ensures.sums counted key below in
    summed_set counted key c.args.places.now.items c.in-Some.place c.index_mut.result.now c.clear.new.self _ _ c.in-Some.ensures.0 c.index_mut.ensures.value (c.requires.sums counted key below)
    (rw c.clear.ensures.place (omega (arith, step)))

pub returns-in_default-clause-rows : goal.returns-in_default-clause-rows
returns-in_default-clause-rows c = sym (none_goes c.args.chunk _ (others_stand c.args.chunk c.args.places.now.items c.in_default.ensures c.requires.own))
