use Rattle.std.proofs.Common.{arith}
use Rattle.fwd_value.specs.Val.{entries_of}
use Rattle.fwd_payload.proofs.EncodedSizes.{map_size, event_size}
use Rattle.fwd_payload.proofs.sizes.event_size.Goals as goal

pub returns : goal.returns
returns c =
    let e = c.args.event.now in
    let meta = rw c.as_slice.ensures at c.pair_sizes.ensures in
    let body = rw c.as_slice-2.ensures at c.pair_sizes-2.ensures in
    let meta_within = map_size (entries_of e.meta) in
    let body_within = map_size (entries_of e.body) in
    omega (arith, event_size e, meta_within, body_within, meta, body, c.saturating_add-meta.ensures, c.saturating_add-body.ensures, c.saturating_add.ensures, c.saturating_add-2.ensures)
