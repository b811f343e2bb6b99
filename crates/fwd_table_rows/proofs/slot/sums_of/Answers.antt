use Rattle.std.proofs.Common.{arith}
use Rattle.fwd_table_rows.proofs.SlotSums.{next_fits, summed_more}
use Rattle.fwd_table_rows.proofs.slot.sums_of.Goals as goal

pub count-requires : goal.count-requires
count-requires c counted key below =
    next_fits counted key c.args.places.now.items c.loop-index.index c.index.result.now _ c.requires.sound c.requires.few (omega arith) c.index.ensures (c.loop-index.invariant counted key below)

pub loop-index-preserved : goal.loop-index-preserved
loop-index-preserved c counted key below =
    summed_more counted key c.args.places.now.items c.loop-index.index c.index.result.now _ _ (omega arith) c.index.ensures (c.loop-index.invariant counted key below) (c.count.ensures counted key below)
