use Rattle.std.proofs.Common.{◌≡◌, ◌++◌, List, ℕ, ap, ◌∙◌}
use Rattle.fwd_out_http.specs.Request.{field}
use Rattle.fwd_out_http.proofs.HeadGrowth.{fields_grow}
use Rattle.fwd_out_http.proofs.request.write_fields.Goals as goal

pub loop-more-preserved : goal.loop-more-preserved
loop-more-preserved c =
    fields_grow c.args.fields.now c.loop-more.more-index c.more-item.result c.args.out.now c.loop-more.out c.write_field.new.out c.loop-more-test.true c.more-item.is c.loop-more.invariant
    (c.in_ok-write_field.ensures ∙ cc)
