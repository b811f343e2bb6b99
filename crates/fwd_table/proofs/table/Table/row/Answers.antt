use Rattle.std.proofs.Common.{◌≡◌, ◌<◌, length, refl, ap, sym}
use Rattle.fwd_table_rows.specs.declared.row.RowSeen.{RowSeen}
use Rattle.fwd_table_rows.proofs.SlotChanges.{stands_at}
use Rattle.fwd_table.proofs.table.Table.row.Goals as goal

pub returns-clause-only : goal.returns-clause-only
returns-clause-only c =
    let places = c.self.inside.places.items in
    let row = c.in_ok-row.row.now in
    let chunk : c.seen.result.chunk ≡ row.chunk = ap (λ (seen : RowSeen). seen.chunk) c.seen.ensures.value in
    let within : c.args.place < length places = rw (← c.self.inside.places.ok.0) (c.in_ok-place.ensures.variant.0 refl) in
    rw (chunk, ← c.self.view_is) (stands_at places c.args.place c.in_ok-place.place.now row c.self.invariant.numbers c.self.invariant.own within c.in_ok-place.ensures.lookup (sym c.in_ok-row.ensures.value))
