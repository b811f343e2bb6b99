use Rattle.std.proofs.Common.{get_or, refl, arith}
use Rattle.fwd_transcode.proofs.Values.{if_given, ext_done, first_is}
use Rattle.fwd_transcode.proofs.value.transcode_ext.Goals as goal

pub returns-clause-given : goal.returns-clause-given
returns-clause-given c =
    let typed = c.in-Some.typed.now in
    if_given c.copy_bytes.result _ _ (λ rest h. ext_done c.args.count c.args.bytes.now typed _ rest.now c.in-Some.n (get_or typed 0 0) c.args.out.now c.put_ext_head.new.out c.put_byte.new.out _ (omega arith) c.in-Some.ensures.read
    (first_is typed _ c.in-len1-up.len_at_least refl) c.in_ok-put_ext_head.ensures.ok c.in_ok-put_byte.ensures.ok h) c.copy_bytes.ensures.given
