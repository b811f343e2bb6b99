use Rattle.std.proofs.Common.{length, rules}
use Rattle.std.specs.List.Sorted.{IsSearchInRange}
use Rattle.std.proofs.lemmas.List.Sorted.{answers_always}
use Rattle.fwd_table_rows.specs.declared.slot.Slot.{Slot}
use Rattle.fwd_table_rows.proofs.SlotChanges.{place_found}
use Rattle.fwd_table_rows.proofs.slot.search_place.Goals as goal

pub returns : goal.returns
returns c =
    let facts = c.binary_search_by_key.ensures in
    let by_number = facts.position (λ (place : Slot). place.chunk.0) (answers_always _ _ _ (λ f a r g called. search rules)) in
    let within : IsSearchInRange c.binary_search_by_key.result (length c.args.places.now.items) = rw (← c.args.places.now.ok.0) facts.bound in
    rw c.ok.ensures.value (place_found c.args.chunk c.args.places.now.items c.binary_search_by_key.result c.requires within by_number)
