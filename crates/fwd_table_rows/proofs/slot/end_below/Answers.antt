use Rattle.std.proofs.Common.{◌≡◌, ◌<◌, ◌-◌, get_or, length, arith}
use Rattle.std.proofs.lemmas.Bool.Decides.{nat_tests}
use Rattle.fwd_table_rows.proofs.SlotChanges.{below_last}
use Rattle.fwd_table_rows.proofs.slot.end_below.Goals as goal

pub returns-in-Some : goal.returns-in-Some
returns-in-Some c less =
    let places = c.args.places.now.items in
    let last = c.in-Some.last.now in
    let is : last ≡ get_or places (length places - 1) last = rw (← c.args.places.now.ok.0) c.in-Some.ensures.lookup in
    let under : last.chunk.0 < c.args.chunk.0 = grind (arith, nat_tests, less) in
    below_last places last c.args.chunk.0 c.requires is under
