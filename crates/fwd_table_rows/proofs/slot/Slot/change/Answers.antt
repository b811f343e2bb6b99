use Rattle.std.proofs.Common.{arith}
use Rattle.fwd_table_rows.specs.Sums.{IsValidRow}
use Rattle.fwd_table_rows.proofs.RowSums.{part_few}
use Rattle.fwd_table_rows.proofs.slot.Slot.change.Goals as goal

pub shift-requires-in-Some : goal.shift-requires-in-Some
shift-requires-in-Some c counted key below =
    let sound : IsValidRow c.in-Some.row = rw c.in-Some.is at c.requires.sound in
    let room = c.requires.room counted key below in
    let out = c.shift.ensures counted key below in
    let own = part_few counted key c.apply.new.self (c.apply.ensures.sound sound) in
    omega (arith, room, out, own)
