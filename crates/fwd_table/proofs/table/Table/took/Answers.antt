use Rattle.std.proofs.Common.{◌<◌, false, refl, arith}
use Rattle.std.specs.Prelude.{All}
use Rattle.std.proofs.lemmas.List.Quantifiers.{all_pairs_push}
use Rattle.std.proofs.lemmas.List.Elements.{All-push}
use Rattle.fwd_table_rows.specs.declared.slot.Slot.{Slot}
use Rattle.fwd_table_rows.specs.declared.row.Row.{Row}
use Rattle.fwd_table_rows.specs.Slots.{HasOwnRow, rows_in}
use Rattle.fwd_table_rows.specs.Sums.{IsValidRow}
use Rattle.fwd_table_rows.proofs.SlotChanges.{few_standing, standing_push}
use Rattle.fwd_table_rows.proofs.RowSums.{comes_in, opened_sound, sums_pushed}
use Rattle.fwd_table.proofs.DueIndex.{pushed_timers}
use Rattle.fwd_table.proofs.table.Table.took.Goals as goal

pub free_end-requires-clause-above : goal.free_end-requires-clause-above
free_end-requires-clause-above c = rw (← c.self.view_is) at c.requires.above

pub shift-requires : goal.shift-requires
shift-requires c counted key below =
    let rows = rows_in c.self.inside.places.items in
    let is = c.self.invariant.kept.summed counted key below in
    let few = few_standing c.self.inside.places.items in
    comes_in counted key rows _ _ c.self.invariant.kept.sound (opened_sound c.args.chunk c.args.input c.args.home c.args.tag c.args.size c.args.owed c.to.result c.ranges.size.fits c.to.ensures.value) (omega (arith, few)) (omega (arith, is))

pub invariant_of-self : goal.invariant_of-self
invariant_of-self c =
    let places = c.free_end.new.places.items in
    let above : All (λ (row : Row). row.chunk.0 < c.args.chunk.0) (rows_in c.self.inside.places.items) = rw (← c.self.view_is) at c.requires.above in
    rw c.push_back_reserved.ensures.items
    (record {
      numbers = all_pairs_push (λ (place behind : Slot). place.chunk.0 < behind.chunk.0) places _ c.free_end.ensures.numbers c.free_end.ensures.below;
      own = All-push HasOwnRow places _ c.free_end.ensures.own refl;
      kept = rw (standing_push places _ _, c.free_end.ensures.rows) (record {
        rise = all_pairs_push (λ (row behind : Row). row.chunk.0 < behind.chunk.0) (rows_in c.self.inside.places.items) _ c.self.invariant.kept.rise above;
        sound = All-push IsValidRow (rows_in c.self.inside.places.items) _ c.self.invariant.kept.sound (opened_sound c.args.chunk c.args.input c.args.home c.args.tag c.args.size c.args.owed c.to.result c.ranges.size.fits c.to.ensures.value);
        listed = rw (pushed_timers (rows_in c.self.inside.places.items) (record { chunk = c.args.chunk; input = c.args.input; home = c.args.home; tag = c.args.tag; size = c.args.size; shut = false; routes = c.to.result }) refl) c.self.invariant.kept.listed;
        summed = λ counted key below. sums_pushed counted key (rows_in c.self.inside.places.items) _ _ _ (c.self.invariant.kept.summed counted key below) (c.shift.ensures counted key below);
      });
    })
