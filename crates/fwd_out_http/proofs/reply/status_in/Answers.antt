use Rattle.std.proofs.Common.{sym, ◌∙◌}
use Rattle.fwd_out_http.proofs.ParserResults.{interim_sliced, head_counts, no_status}
use Rattle.fwd_out_http.proofs.reply.status_in.Goals as goal

pub heads-preserved : goal.heads-preserved
heads-preserved c =
    interim_sliced c.args.bytes.now c.heads.rest.now c.in-Some.head.status c.in-Some.head.len c.heads.invariant c.in-Some.ensures.found (sym c.is_interim.ensures ∙ c.if-is_interim.true)

pub returns-in-Some-2 : goal.returns-in-Some-2
returns-in-Some-2 c =
    sym (c.heads.invariant ∙ head_counts c.heads.rest.now c.in-Some.head.status c.in-Some.head.len c.in-Some.ensures.found (sym c.is_interim.ensures ∙ c.if-is_interim.false))

pub returns-in-None : goal.returns-in-None
returns-in-None c = sym (c.heads.invariant ∙ no_status c.heads.rest.now c.in-None.ensures.none)
