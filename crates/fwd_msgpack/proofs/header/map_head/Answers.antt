use Rattle.std.proofs.Common.{get_or, refl, arith}
use Rattle.fwd_msgpack.proofs.Heads.{first_is, if_some, short_map, map_of_two, map_of_four}
use Rattle.fwd_msgpack.proofs.header.map_head.Goals as goal

pub returns-in-222 : goal.returns-in-222
returns-in-222 c =
    let bytes = c.args.bytes.now in
    if_some c.length_of_two_bytes.result _ _ (λ x h. map_of_two x.0 bytes x.1.now _ (first_is bytes _ 222 c.in-len1-up.len_at_least c.in-222.is refl) h) c.length_of_two_bytes.ensures

pub returns-in-223 : goal.returns-in-223
returns-in-223 c =
    let bytes = c.args.bytes.now in
    if_some c.length_of_four_bytes.result _ _ (λ x h. map_of_four x.0 bytes x.1.now _ (first_is bytes _ 223 c.in-len1-up.len_at_least c.in-223.is refl) h) c.length_of_four_bytes.ensures

pub returns-in-128-to-143 : goal.returns-in-128-to-143
returns-in-128-to-143 c =
    let bytes = c.args.bytes.now in
    short_map bytes _ (get_or bytes 0 0) (first_is bytes _ (get_or bytes 0 0) c.in-len1-up.len_at_least refl refl) (omega arith) (omega arith)
