use Rattle.std.proofs.Common.{◌≡◌, ◌<◌, sym, ◌∙◌, arith}
use Rattle.std.specs.Prelude.{◌==◌}
use Rattle.std.proofs.lemmas.Bool.{eqb-true, not-false}
use Rattle.std.proofs.lemmas.List.Elements.{All-filter}
use Rattle.std.proofs.lemmas.List.Kept.{AllPairs-filter}
use Rattle.fwd_table_rows.specs.declared.row.Row.{Row}
use Rattle.fwd_table_rows.specs.Slots.{rows_in}
use Rattle.fwd_table_rows.specs.Rows.{is_owed_row}
use Rattle.fwd_table_rows.specs.Sums.{IsValidRow, Unowed, total}
use Rattle.fwd_table.proofs.DueIndex.{owed_timers}
use Rattle.fwd_table.proofs.Usage.{none_unowed}
use Rattle.fwd_table.proofs.table.Table.sweep.Goals as goal

pub sums_of-self-inside-requires-clause-sound : goal.sums_of-self-inside-requires-clause-sound
sums_of-self-inside-requires-clause-sound c = rw c.drop_unowed_places.ensures.rows (All-filter is_owed_row IsValidRow (rows_in c.self.inside.places.items) c.self.invariant.kept.sound)

pub invariant_of-self : goal.invariant_of-self
invariant_of-self c = record {
  numbers = c.drop_unowed_places.ensures.numbers c.self.invariant.numbers;
  own = c.drop_unowed_places.ensures.own c.self.invariant.own;
  kept = record {
    rise = rw c.drop_unowed_places.ensures.rows (AllPairs-filter (λ (row behind : Row). row.chunk.0 < behind.chunk.0) is_owed_row _ c.self.invariant.kept.rise);
    sound = rw c.drop_unowed_places.ensures.rows (All-filter is_owed_row IsValidRow _ c.self.invariant.kept.sound);
    listed = rw (c.drop_unowed_places.ensures.rows, owed_timers (rows_in c.self.inside.places.items)) c.self.invariant.kept.listed;
    summed = c.sums_of-self-inside.ensures;
  };
}

pub returns-then-has_unowed-clause-rows : goal.returns-then-has_unowed-clause-rows
returns-then-has_unowed-clause-rows c = rw (← c.self.view_is) c.drop_unowed_places.ensures.rows

pub returns-else-has_unowed-clause-rows : goal.returns-else-has_unowed-clause-rows
returns-else-has_unowed-clause-rows c =
    let none : total Unowed 0 c.self.inside.sums ≡ 0 = eqb-true (total Unowed 0 c.self.inside.sums) 0 (not-false (total Unowed 0 c.self.inside.sums == 0) (sym c.has_unowed.ensures ∙ c.if-has_unowed.false)) in
    rw (← c.self.view_is) (sym (none_unowed (rows_in c.self.inside.places.items) (sym (c.self.invariant.kept.summed Unowed 0 (omega arith)) ∙ none)))
