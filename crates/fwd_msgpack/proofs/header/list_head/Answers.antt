use Rattle.std.proofs.Common.{get_or, refl, arith}
use Rattle.fwd_msgpack.proofs.Heads.{first_is, if_some, short_list, list_of_two, list_of_four}
use Rattle.fwd_msgpack.proofs.header.list_head.Goals as goal

pub returns-in-220 : goal.returns-in-220
returns-in-220 c =
    let bytes = c.args.bytes.now in
    if_some c.length_of_two_bytes.result _ _ (λ x h. list_of_two x.0 bytes x.1.now _ (first_is bytes _ 220 c.in-len1-up.len_at_least c.in-220.is refl) h) c.length_of_two_bytes.ensures

pub returns-in-221 : goal.returns-in-221
returns-in-221 c =
    let bytes = c.args.bytes.now in
    if_some c.length_of_four_bytes.result _ _ (λ x h. list_of_four x.0 bytes x.1.now _ (first_is bytes _ 221 c.in-len1-up.len_at_least c.in-221.is refl) h) c.length_of_four_bytes.ensures

pub returns-in-144-to-159 : goal.returns-in-144-to-159
returns-in-144-to-159 c =
    let bytes = c.args.bytes.now in
    short_list bytes _ (get_or bytes 0 0) (first_is bytes _ (get_or bytes 0 0) c.in-len1-up.len_at_least refl refl) (omega arith) (omega arith)
