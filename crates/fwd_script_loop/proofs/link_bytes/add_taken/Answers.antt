use Rattle.std.proofs.Common.{List, ℕ, ◌++◌, ap, sym, ◌∙◌}
use Rattle.fwd_script_loop.proofs.LinkByteSteps.{taken_when}
use Rattle.fwd_script_loop.proofs.link_bytes.add_taken.Goals as goal

pub returns-in_ok-add_piece-in-Push : goal.returns-in_ok-add_piece-in-Push
returns-in_ok-add_piece-in-Push c =
    c.in_ok-add_piece-in-Push.ensures
    ∙ ap (λ (l : List ℕ). c.args.bytes.now ++ l)
    (taken_when c.args.outputs c.args.links.now c.args.note.now c.in-Push.link c.in-Push.piece _ c.in-Push.answer c.in-Push.is c.as_slice.ensures (sym c.leads_to.ensures ∙ c.if-leads_to.true))
