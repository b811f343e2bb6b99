use Rattle.std.proofs.Common.{◌∙◌, sym}
use Rattle.std.proofs.lemmas.List.{take_rest}
use Rattle.fwd_base.proofs.Translation.{step-escape, step-named, step-other}
use Rattle.fwd_base.proofs.rewrite.push_translated.Goals as goal

pub returns-then-first-eq92-clause-written : goal.returns-then-first-eq92-clause-written
returns-then-first-eq92-clause-written c =
    rw c.after_escape.ensures (step-escape c.args.place c.args.text.now _ _ c.requires c.if-first-eq92.true c.in_ok-push_escaped.ensures)

pub returns-then-opens_named-clause-written : goal.returns-then-opens_named-clause-written
returns-then-opens_named-clause-written c =
    let opens = rw (take_rest c.args.text.now 2) at (sym c.opens_named.ensures ∙ c.if-opens_named.true) in
    step-named c.args.place c.args.text.now _ _ c.requires c.if-first-eq92.false opens c.in_ok-extend_from_slice.ensures.ok

pub returns-clause-written : goal.returns-clause-written
returns-clause-written c =
    let opens = rw (take_rest c.args.text.now 2) at (sym c.opens_named.ensures ∙ c.if-opens_named.false) in
    rw c.after_byte.ensures (step-other c.args.place c.args.text.now _ _ c.requires c.if-first-eq92.false opens c.in_ok-push.ensures.ok)
