use Rattle.std.proofs.Common.{refl, arith}
use Rattle.fwd_msgpack.proofs.Heads.{first_is, if_some, text_has_bytes, bin_of_one, bin_of_two, bin_of_four}
use Rattle.fwd_msgpack.proofs.header.bytes_head.Goals as goal

pub returns-in-196 : goal.returns-in-196
returns-in-196 c =
    let bytes = c.args.bytes.now in
    if_some c.length_of_one_byte.result _ _ (λ x h. bin_of_one x.0 bytes x.1.now _ (first_is bytes _ 196 (omega arith) (omega arith) refl) h) c.length_of_one_byte.ensures

pub returns-in-197 : goal.returns-in-197
returns-in-197 c =
    let bytes = c.args.bytes.now in
    if_some c.length_of_two_bytes.result _ _ (λ x h. bin_of_two x.0 bytes x.1.now _ (first_is bytes _ 197 (omega arith) (omega arith) refl) h) c.length_of_two_bytes.ensures

pub returns-in-198 : goal.returns-in-198
returns-in-198 c =
    let bytes = c.args.bytes.now in
    if_some c.length_of_four_bytes.result _ _ (λ x h. bin_of_four x.0 bytes x.1.now _ (first_is bytes _ 198 (omega arith) (omega arith) refl) h) c.length_of_four_bytes.ensures

pub returns-in_default : goal.returns-in_default
returns-in_default c =
    if_some c.text_head.result _ _ (λ x h. text_has_bytes x.0 c.args.bytes.now x.1.now h) c.text_head.ensures
