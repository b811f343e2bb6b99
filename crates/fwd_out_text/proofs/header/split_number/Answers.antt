use Rattle.std.proofs.Common.{get_or, refl, arith}
use Rattle.fwd_msgpack.proofs.Heads.{first_is, if_some}
use Rattle.fwd_out_text.proofs.Numbers.{fixint_leads, uint_of_one, uint_of_two, uint_of_four, uint_of_eight}
use Rattle.fwd_out_text.proofs.header.split_number.Goals as goal

pub returns-in-0-to-127 : goal.returns-in-0-to-127
returns-in-0-to-127 c =
    let bytes = c.args.bytes.now in
    let first = get_or bytes 0 0 in
    fixint_leads first bytes _ (omega arith) (first_is bytes _ first c.in-len1-up.len_at_least refl refl)

pub returns-in-204 : goal.returns-in-204
returns-in-204 c =
    let bytes = c.args.bytes.now in
    if_some c.number_at.result _ _ (λ x h. uint_of_one x.0 bytes x.1.now _ (first_is bytes _ 204 c.in-len1-up.len_at_least c.in-204.is refl) h) c.number_at.ensures.read

pub returns-in-205 : goal.returns-in-205
returns-in-205 c =
    let bytes = c.args.bytes.now in
    if_some c.number_at-in-205.result _ _ (λ x h. uint_of_two x.0 bytes x.1.now _ (first_is bytes _ 205 c.in-len1-up.len_at_least c.in-205.is refl) h) c.number_at-in-205.ensures.read

pub returns-in-206 : goal.returns-in-206
returns-in-206 c =
    let bytes = c.args.bytes.now in
    if_some c.number_at-in-206.result _ _ (λ x h. uint_of_four x.0 bytes x.1.now _ (first_is bytes _ 206 c.in-len1-up.len_at_least c.in-206.is refl) h) c.number_at-in-206.ensures.read

pub returns-in-207 : goal.returns-in-207
returns-in-207 c =
    let bytes = c.args.bytes.now in
    if_some c.number_at-in-207.result _ _ (λ x h. uint_of_eight x.0 bytes x.1.now _ (first_is bytes _ 207 c.in-len1-up.len_at_least c.in-207.is refl) h) c.number_at-in-207.ensures.read
