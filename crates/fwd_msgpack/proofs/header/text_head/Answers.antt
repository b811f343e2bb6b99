use Rattle.std.proofs.Common.{get_or, refl, arith}
use Rattle.fwd_msgpack.proofs.Heads.{first_is, if_some, short_text, text_of_one, text_of_two, text_of_four}
use Rattle.fwd_msgpack.proofs.header.text_head.Goals as goal

pub returns-in-217 : goal.returns-in-217
returns-in-217 c =
    let bytes = c.args.bytes.now in
    if_some c.length_of_one_byte.result _ _ (λ x h. text_of_one x.0 bytes x.1.now _ (first_is bytes _ 217 c.in-len1-up.len_at_least c.in-217.is refl) h) c.length_of_one_byte.ensures

pub returns-in-218 : goal.returns-in-218
returns-in-218 c =
    let bytes = c.args.bytes.now in
    if_some c.length_of_two_bytes.result _ _ (λ x h. text_of_two x.0 bytes x.1.now _ (first_is bytes _ 218 c.in-len1-up.len_at_least c.in-218.is refl) h) c.length_of_two_bytes.ensures

pub returns-in-219 : goal.returns-in-219
returns-in-219 c =
    let bytes = c.args.bytes.now in
    if_some c.length_of_four_bytes.result _ _ (λ x h. text_of_four x.0 bytes x.1.now _ (first_is bytes _ 219 c.in-len1-up.len_at_least c.in-219.is refl) h) c.length_of_four_bytes.ensures

pub returns-in-160-to-191 : goal.returns-in-160-to-191
returns-in-160-to-191 c =
    let bytes = c.args.bytes.now in
    short_text bytes _ (get_or bytes 0 0) (first_is bytes _ (get_or bytes 0 0) c.in-len1-up.len_at_least refl refl) (omega arith) (omega arith)
