use Rattle.std.proofs.Common.{◌≡◌, ℕ, List, subst, codes}
use Rattle.std.specs.Prelude.{OnOk}
use Rattle.fwd_out_http.proofs.HeadGrowth.{line_grows}
use Rattle.fwd_out_http.proofs.request.write_request_line.Goals as goal

pub returns : goal.returns
returns c =
    subst (λ (t : List ℕ). OnOk c.extend_from_slice-3.result (c.extend_from_slice-3.new.self ≡ t))
    (line_grows c.args.out.now (codes "POST ") c.args.uri.now (codes " HTTP/1.1\r\n") _ _ c.in_ok-extend_from_slice.ensures.ok c.in_ok-extend_from_slice-2.ensures.ok)
    c.extend_from_slice-3.ensures.ok
