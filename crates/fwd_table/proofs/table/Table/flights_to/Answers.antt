use Rattle.std.proofs.Common.{arith}
use Rattle.fwd_table_rows.specs.Rows.{flies_to}
use Rattle.fwd_table_rows.specs.Slots.{rows_in}
use Rattle.fwd_table.proofs.Usage.{flights_are, kept_few}
use Rattle.fwd_table_rows.proofs.SlotChanges.{few_standing}
use Rattle.fwd_table.proofs.table.Table.flights_to.Goals as goal

pub returns : goal.returns
returns c = rw (← c.self.view_is) (flights_are c.args.output c.self.inside.sums (rows_in c.self.inside.places.items) c.flights.result c.flights.ensures c.self.invariant.kept.summed c.self.invariant.kept.sound)

pub overflow_cast-result : goal.overflow_cast-result
overflow_cast-result c =
    let rows = rows_in c.self.inside.places.items in
    let is = flights_are c.args.output c.self.inside.sums rows c.flights.result c.flights.ensures c.self.invariant.kept.summed c.self.invariant.kept.sound in
    let few = kept_few (flies_to c.args.output) rows in
    let all = few_standing c.self.inside.places.items in
    omega (arith, is, few, all)
