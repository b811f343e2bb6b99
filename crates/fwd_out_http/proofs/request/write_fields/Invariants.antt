use Rattle.std.proofs.Common.{◌≡◌, ◌++◌, take}
use Rattle.fwd_out_http.specs.Request.{further_fields}
use Rattle.fwd_out_http.proofs.request.write_fields.Given as goal

abbrev pub invariant-loop-more : goal.invariant-loop-more
invariant-loop-more l = l.out ≡ l.fn.out ++ further_fields (take l.more-index l.fields)
