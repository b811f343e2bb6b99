use Rattle.std.proofs.Common.{◌≡◌, ◌<◌, not, sym, ap, ◌∙◌}
use Rattle.std.proofs.lemmas.List.Elements.{All-filter}
use Rattle.std.proofs.lemmas.List.Kept.{AllPairs-filter}
use Rattle.fwd_table_rows.specs.declared.row.Row.{Row}
use Rattle.fwd_table_rows.specs.Slots.{rows_in}
use Rattle.fwd_table_rows.specs.Rows.{IsOwedToNobody, idle_timers_of, is_row_of, without_chunk}
use Rattle.fwd_table_rows.specs.Sums.{IsValidRow}
use Rattle.fwd_table.proofs.DueIndex.{owed_timers}
use Rattle.fwd_table.proofs.Usage.{owed_without}
use Rattle.fwd_table.proofs.table.Table.forget.Goals as goal

gone : (c : goal.After-drop_first_gaps) → rows_in c.drop_first_gaps.new.places.items ≡ without_chunk c.args.chunk (rows_in c.self.inside.places.items)
gone c = c.drop_first_gaps.ensures.rows ∙ c.clear_row.ensures.rows

same_timers : (c : goal.After-drop_first_gaps) → idle_timers_of (without_chunk c.args.chunk (rows_in c.self.inside.places.items)) ≡ idle_timers_of (rows_in c.self.inside.places.items)
same_timers c =
    let rows = rows_in c.self.inside.places.items in
    let asked : IsOwedToNobody c.args.chunk rows = rw (← c.self.view_is) at c.requires in
    sym (owed_timers (without_chunk c.args.chunk rows)) ∙ ap idle_timers_of (owed_without c.args.chunk rows c.self.invariant.kept.rise asked) ∙ owed_timers rows

pub invariant_of-self : goal.invariant_of-self
invariant_of-self c =
    let other = λ (row : Row). not (is_row_of c.args.chunk row) in
    record {
      numbers = c.drop_first_gaps.ensures.numbers c.clear_row.ensures.numbers;
      own = c.drop_first_gaps.ensures.own c.clear_row.ensures.own;
      kept = record {
        rise = rw (gone c) (AllPairs-filter (λ (row behind : Row). row.chunk.0 < behind.chunk.0) other _ c.self.invariant.kept.rise);
        sound = rw (gone c) (All-filter other IsValidRow _ c.self.invariant.kept.sound);
        listed = rw (gone c, same_timers c) c.self.invariant.kept.listed;
        summed = rw c.drop_first_gaps.ensures.rows c.clear_row.ensures.sums;
      };
    }

pub returns-clause-owed : goal.returns-clause-owed
returns-clause-owed c =
    let rows : c.close_many_gaps.new.self.rows ≡ without_chunk c.args.chunk (rows_in c.self.inside.places.items) = c.close_many_gaps.ensures.rows ∙ c.drop_first_gaps.ensures.rows ∙ c.clear_row.ensures.rows in
    let asked : IsOwedToNobody c.args.chunk (rows_in c.self.inside.places.items) = rw (← c.self.view_is) at c.requires in
    rw (rows, ← c.self.view_is) (owed_without c.args.chunk (rows_in c.self.inside.places.items) c.self.invariant.kept.rise asked)
