use Rattle.std.proofs.Common.{List, ℕ, ◌++◌, codes, append_assoc, sym, ap, ◌∙◌}
use Rattle.fwd_value.specs.Val.{text}
use Rattle.fwd_msgpack.specs.Canonical.{canonical}
use Rattle.fwd_msgpack.proofs.EncodeLoops.{on_ok}
use Rattle.fwd_parser.specs.EventHead.{event_head}
use Rattle.fwd_parser.proofs.PlainEvents.{plain_bytes}
use Rattle.fwd_parser.proofs.encoding.put_short.Goals as goal

pub returns-clause-ok : goal.returns-clause-ok
returns-clause-ok c = on_ok c.put_text.result _ _ (λ said.
    let old = c.args.out.now in
    let head = event_head c.args.moment 1 in
    let key = canonical (text (codes "log")) in
    let line = canonical (text c.args.line.now) in
    said ∙ ap (λ (o : List ℕ). o ++ line) c.in_ok-put_log_head.ensures.ok ∙ append_assoc old (head ++ key) line ∙ ap (λ (o : List ℕ). old ++ o) (append_assoc head key line ∙ sym (plain_bytes c.args.moment c.args.line.now))) c.put_text.ensures.ok
