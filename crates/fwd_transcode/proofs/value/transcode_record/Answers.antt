use Rattle.std.proofs.Common.{get_or, refl}
use Rattle.fwd_msgpack.specs.declared.form.Form.TheVariants as form
use Rattle.fwd_transcode.proofs.Values.{if_given, first_is, map_after_first}
use Rattle.fwd_transcode.proofs.value.transcode_record.Goals as goal

pub returns-in-Map-clause-given : goal.returns-in-Map-clause-given
returns-in-Map-clause-given c =
    let bytes = c.args.bytes.now in
    if_given c.transcode_map.result _ _ (λ rest h. map_after_first c.args.depth (get_or bytes 0 0) (form.Map c.in-Map.count) bytes _ rest.now c.args.out.now _ (first_is bytes _ c.in-len1-up.len_at_least refl)
    (rw c.in-Map.is at c.form_of.ensures) h) c.transcode_map.ensures.given
