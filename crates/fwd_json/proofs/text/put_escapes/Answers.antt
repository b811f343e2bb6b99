use Rattle.std.proofs.Common.{List, ℕ, ◌++◌, ap, ◌∙◌}
use Rattle.fwd_json.proofs.TextLoops.{run_extends}
use Rattle.fwd_json.proofs.text.put_escapes.Goals as goal

pub runs-preserved : goal.runs-preserved
runs-preserved c =
    run_extends c.args.out.now c.args.bytes.now c.runs.out c.extend_from_slice.new.self c.put_escaped.new.out c.runs.rest.now c.split_at.result.1.now c.plain_run.result c.runs.invariant
    c.plain_run.ensures.plain (c.in_ok-extend_from_slice.ensures.ok ∙ ap (λ (t : List ℕ). c.runs.out ++ t) c.split_at.ensures.front) c.split_at.ensures.back c.in-len1-up.len_at_least
    c.in_ok-put_escaped.ensures
