use Rattle.std.proofs.Common.{sym, ap, subst}
use Rattle.std.proofs.lemmas.List.Elements.{All-set}
use Rattle.fwd_table_rows.specs.declared.slot.Slot.{Slot}
use Rattle.fwd_table_rows.specs.Changes.{row_with_change}
use Rattle.fwd_table_rows.specs.Slots.{HasOwnRow}
use Rattle.fwd_table_rows.proofs.SlotSums.{held_at, room_left, sound_after, sound_there, summed_set}
use Rattle.fwd_table_rows.proofs.ChunkRows.{none_changes}
use Rattle.fwd_table_rows.proofs.SlotChanges.{change_there, numbers_stay, others_stand, own_changed}
use Rattle.fwd_table_rows.proofs.slot.change_row.Goals as goal

pub change-requires : goal.change-requires
change-requires c =
    let places = c.args.places.now.items in
    let within = c.in-Some.ensures.0 in
    let is = c.index_mut.ensures.value in
    record {
      sound = sound_there places c.in-Some.place c.index_mut.result.now c.requires.sound within is;
      held = held_at c.args.sums.now places c.in-Some.place c.index_mut.result.now c.requires.sums within is;
      room = λ counted key below. rw (c.requires.sums counted key below) (room_left counted key places c.requires.sound c.requires.few);
    }

pub returns-in-Some-clause-rows : goal.returns-in-Some-clause-rows
returns-in-Some-clause-rows c =
    let places = c.args.places.now.items in
    let there = c.in-Some.ensures in
    let old = c.index_mut.result.now in
    rw (c.change.ensures.place, c.index_mut.ensures.value) (sym (change_there c.args.chunk old (row_with_change c.args.change) places c.in-Some.place c.requires.numbers c.requires.own there.0 (there.1 old)))

pub returns-in-Some-clause-numbers : goal.returns-in-Some-clause-numbers
returns-in-Some-clause-numbers c =
    let places = c.args.places.now.items in
    let old = c.index_mut.result.now in
    numbers_stay places c.in-Some.place c.change.new.self old c.in-Some.ensures.0 (rw c.change.ensures.place (ap (λ (p : Slot). p.chunk.0) c.index_mut.ensures.value)) c.requires.numbers

pub returns-in-Some-clause-own : goal.returns-in-Some-clause-own
returns-in-Some-clause-own c =
    let places = c.args.places.now.items in
    let old = c.index_mut.result.now in
    let own : HasOwnRow old = subst HasOwnRow (sym c.index_mut.ensures.value) (c.requires.own c.in-Some.place old c.in-Some.ensures.0) in
    All-set HasOwnRow places c.in-Some.place c.change.new.self (rw c.change.ensures.place (own_changed c.args.change old own)) c.requires.own

pub returns-in-Some-clause-sound : goal.returns-in-Some-clause-sound
returns-in-Some-clause-sound c = sound_after c.args.places.now.items c.in-Some.place c.change.new.self c.requires.sound c.change.ensures.sound

pub returns-in-Some-clause-sums : goal.returns-in-Some-clause-sums
returns-in-Some-clause-sums c counted key below =
    summed_set counted key c.args.places.now.items c.in-Some.place c.index_mut.result.now c.change.new.self _ _ c.in-Some.ensures.0 c.index_mut.ensures.value (c.requires.sums counted key below) (c.change.ensures.sums counted key below)

pub returns-in_default-clause-rows : goal.returns-in_default-clause-rows
returns-in_default-clause-rows c = sym (none_changes c.args.chunk (row_with_change c.args.change) _ (others_stand c.args.chunk c.args.places.now.items c.in_default.ensures c.requires.own))
