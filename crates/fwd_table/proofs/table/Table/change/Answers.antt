use Rattle.fwd_table_rows.specs.Slots.{rows_in}
use Rattle.fwd_table_rows.proofs.Chunks.{rise-on_chunk}
use Rattle.fwd_table.proofs.DueIndex.{others_stay}
use Rattle.fwd_table.proofs.table.Table.change.Goals as goal

pub insert_timers-requires-clause-rise : goal.insert_timers-requires-clause-rise
insert_timers-requires-clause-rise c = rw c.change_row.ensures.rows (rise-on_chunk c.args.chunk c.args.change _ c.self.invariant.kept.rise)

pub insert_timers-requires-clause-index : goal.insert_timers-requires-clause-index
insert_timers-requires-clause-index c = rw (c.change_row.ensures.rows, c.scope-scope.ensures, others_stay c.args.chunk c.args.change (rows_in c.self.inside.places.items)) (rw c.scope-scope.ensures at c.remove_timers.ensures)

pub invariant_of-self : goal.invariant_of-self
invariant_of-self c = record {
  numbers = c.change_row.ensures.numbers;
  own = c.change_row.ensures.own;
  kept = record {
    rise = rw c.change_row.ensures.rows (rise-on_chunk c.args.chunk c.args.change _ c.self.invariant.kept.rise);
    sound = c.change_row.ensures.sound;
    listed = c.insert_timers.ensures;
    summed = c.change_row.ensures.sums;
  };
}
