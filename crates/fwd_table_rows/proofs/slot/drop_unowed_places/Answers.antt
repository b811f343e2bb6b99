use Rattle.std.proofs.Common.{◌≡◌, ◌<◌, rules}
use Rattle.std.specs.Prelude.{filter}
use Rattle.std.proofs.lemmas.Fn.{filter_same}
use Rattle.std.proofs.lemmas.List.Elements.{All-filter}
use Rattle.std.proofs.lemmas.List.Kept.{AllPairs-filter}
use Rattle.fwd_table_rows.specs.declared.slot.Slot.{Slot}
use Rattle.fwd_table_rows.specs.Slots.{HasOwnRow, is_owed_at}
use Rattle.fwd_table_rows.proofs.SlotChanges.{owed_stand}
use Rattle.fwd_table_rows.proofs.slot.drop_unowed_places.Goals as goal

pub returns-clause-rows : goal.returns-clause-rows
returns-clause-rows c =
    let kept : c.retain.new.self.items ≡ filter is_owed_at c.args.places.now.items = filter_same _ _ _ (λ x b f' k. search rules) _ _ c.retain.ensures.filtered in
    rw kept (owed_stand c.args.places.now.items)

pub returns-clause-numbers : goal.returns-clause-numbers
returns-clause-numbers c rise =
    let kept : c.retain.new.self.items ≡ filter is_owed_at c.args.places.now.items = filter_same _ _ _ (λ x b f' k. search rules) _ _ c.retain.ensures.filtered in
    rw kept (AllPairs-filter (λ (place behind : Slot). place.chunk.0 < behind.chunk.0) is_owed_at _ rise)

pub returns-clause-own : goal.returns-clause-own
returns-clause-own c own =
    let kept : c.retain.new.self.items ≡ filter is_owed_at c.args.places.now.items = filter_same _ _ _ (λ x b f' k. search rules) _ _ c.retain.ensures.filtered in
    rw kept (All-filter is_owed_at HasOwnRow _ own)
