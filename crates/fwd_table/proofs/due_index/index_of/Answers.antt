use Rattle.std.proofs.Common.{◌≡◌, ◌≤◌, [], length, drop, arith}
use Rattle.std.proofs.lemmas.List.{drop_all}
use Rattle.fwd_table_rows.proofs.SlotChanges.{timers_standing}
use Rattle.fwd_table.proofs.due_index.index_of.Goals as goal

pub returns : goal.returns
returns c timer =
    let items = c.args.places.now.items in
    let all : length items ≤ c.loop-place.place = omega arith in
    let ends : drop c.loop-place.place items ≡ [] = drop_all c.loop-place.place items all in
    rw (timers_standing items) (rw ends at (c.loop-place.invariant timer))
