use Rattle.std.proofs.Common.{arith, add-one}
use Rattle.std.specs.Prelude.{pos}
use Rattle.fwd_value.specs.Val.{vals_of, entries_of}
use Rattle.fwd_msgpack.proofs.EncodeLoops.{value_weighs_less, pair_weighs_less}
use Rattle.fwd_payload.proofs.EncodedSizes.{whole_size, text_size, bin_size, ext_size, list_size, map_size, values_size, pairs_size}
use Rattle.fwd_payload.proofs.sizes.+sizes.Goals as goal

pub size_of-returns-in-Uint : goal.size_of-returns-in-Uint
size_of-returns-in-Uint t c = rw c.in-Uint.is (omega (arith, whole_size (pos c.in-Uint.field-0)))

pub size_of-returns-in-Neg : goal.size_of-returns-in-Neg
size_of-returns-in-Neg t c = rw c.in-Neg.is (omega (arith, whole_size c.in-Neg.field-0))

pub size_of-returns-in-Text : goal.size_of-returns-in-Text
size_of-returns-in-Text t c = rw c.in-Text.is (omega (arith, text_size c.in-Text.bytes, c.len.ensures, c.saturating_add.ensures))

pub size_of-returns-in-Bin : goal.size_of-returns-in-Bin
size_of-returns-in-Bin t c = rw c.in-Bin.is (omega (arith, bin_size c.in-Bin.bytes, c.len-in-Bin.ensures, c.saturating_add-in-Bin.ensures))

pub size_of-returns-in-Ext : goal.size_of-returns-in-Ext
size_of-returns-in-Ext t c = rw c.in-Ext.is (omega (arith, ext_size c.in-Ext.field-0 c.in-Ext.bytes, c.len-in-Ext.ensures, c.saturating_add-in-Ext.ensures))

pub size_of-returns-in-List : goal.size_of-returns-in-List
size_of-returns-in-List t c =
    let more = rw c.as_slice.ensures at c.sizes_of.ensures in
    rw c.in-List.is (omega (arith, list_size (vals_of c.in-List.values), more, c.saturating_add-in-List.ensures))

pub size_of-returns-in-Map : goal.size_of-returns-in-Map
size_of-returns-in-Map t c =
    let more = rw c.as_slice-in-Map.ensures at c.pair_sizes.ensures in
    rw c.in-Map.is (omega (arith, map_size (entries_of c.in-Map.pairs), more, c.saturating_add-in-Map.ensures))

pub sizes_of-size_of-requires : goal.sizes_of-size_of-requires
sizes_of-size_of-requires t c =
    (omega (arith, c.decreases, value_weighs_less c.args.values.now c.loop-value.value-index c.value-item.result c.loop-value-test.true c.value-item.is), tt)

pub sizes_of-loop-value-preserved : goal.sizes_of-loop-value-preserved
sizes_of-loop-value-preserved t c =
    let more = values_size c.args.values.now c.loop-value.value-index c.value-item.result c.loop-value-test.true c.value-item.is in
    rw add-one (omega (arith, more, c.loop-value.invariant, c.size_of.ensures, c.saturating_add-total.ensures))

pub pair_sizes-size_of-requires : goal.pair_sizes-size_of-requires
pair_sizes-size_of-requires t c =
    (omega (arith, c.decreases, (pair_weighs_less c.args.pairs.now c.loop-pair.pair-index c.pair-item.result c.loop-pair-test.true c.pair-item.is).0), tt)

pub pair_sizes-size_of-requires-in-loop-pair : goal.pair_sizes-size_of-requires-in-loop-pair
pair_sizes-size_of-requires-in-loop-pair t c =
    (omega (arith, c.decreases, (pair_weighs_less c.args.pairs.now c.loop-pair.pair-index c.pair-item.result c.loop-pair-test.true c.pair-item.is).1), tt)

pub pair_sizes-loop-pair-preserved : goal.pair_sizes-loop-pair-preserved
pair_sizes-loop-pair-preserved t c =
    let more = pairs_size c.args.pairs.now c.loop-pair.pair-index c.pair-item.result c.loop-pair-test.true c.pair-item.is in
    rw add-one (omega (arith, more, c.loop-pair.invariant, c.size_of.ensures, c.size_of-in-loop-pair.ensures, c.saturating_add.ensures, c.saturating_add-total.ensures))
