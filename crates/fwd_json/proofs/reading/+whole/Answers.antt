use Rattle.std.proofs.Common.{arith}
use Rattle.fwd_json.proofs.TextLoops.{value_weighs_less, pair_weighs_less}
use Rattle.fwd_json.proofs.reading.+whole.Goals as goal

pub values_are_whole-is_whole-requires : goal.values_are_whole-is_whole-requires
values_are_whole-is_whole-requires t c =
    (omega (arith, c.decreases, value_weighs_less c.args.values.now c.loop-value.value-index c.value-item.result c.loop-value-test.true c.value-item.is), tt)

pub pairs_are_whole-is_whole-requires : goal.pairs_are_whole-is_whole-requires
pairs_are_whole-is_whole-requires t c =
    (omega (arith, c.decreases, pair_weighs_less c.args.pairs.now c.loop-pair.pair-index c.pair-item.result c.loop-pair-test.true c.pair-item.is), tt)
