use Rattle.std.proofs.Common.{List, ℕ, ◌++◌, length, append_assoc, sym, ap, ◌∙◌}
use Rattle.fwd_value.specs.Val.{entries_of}
use Rattle.fwd_msgpack.specs.Canonical.{canonical_entries}
use Rattle.fwd_msgpack.proofs.EncodeLoops.{on_ok}
use Rattle.fwd_parser.specs.LentFields.{lent_record}
use Rattle.fwd_parser.specs.EventHead.{event_head}
use Rattle.fwd_parser.proofs.LentFields.{lent_bytes}
use Rattle.fwd_parser.proofs.lent_fields.put_event.Goals as goal

pub returns-clause-ok : goal.returns-clause-ok
returns-clause-ok c = on_ok c.put_fields.result _ _ (λ said.
    let old = c.args.out.now in
    let groups = c.args.groups.now in
    let rest = canonical_entries (entries_of (lent_record c.args.floats c.args.types.now groups)) in
    said ∙ ap (λ (o : List ℕ). o ++ rest) c.in_ok-put_head.ensures.ok ∙ append_assoc old (event_head c.args.moment (length groups)) rest ∙ ap (λ (o : List ℕ). old ++ o) (sym (lent_bytes c.args.floats c.args.types.now c.args.moment groups c.requires.few))) c.put_fields.ensures.ok
