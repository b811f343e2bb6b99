use Rattle.std.proofs.Common.{ap, ◌∙◌}
use Rattle.fwd_script_loop.specs.LinkBytes.{links_after}
use Rattle.std.proofs.Common.{Option, ℕ, sym}
use Rattle.fwd_script_loop.proofs.LinkByteSteps.{linked_when}
use Rattle.fwd_script_loop.proofs.link_bytes.add_link.Goals as goal

pub returns-in_ok-push-in-Some : goal.returns-in_ok-push-in-Some
returns-in_ok-push-in-Some c =
    c.in_ok-push-in-Some.ensures.items
    ∙ ap (λ (o : Option ℕ). links_after c.args.links.now.items c.in-Dial.output.0 o) (sym c.in-Some.is)
    ∙ linked_when c.args.links.now.items c.args.note.now c.in-Dial.output _ c.in-Dial.link c.in-Dial.is

pub returns-in-None : goal.returns-in-None
returns-in-None c =
    ap (λ (o : Option ℕ). links_after c.args.links.now.items c.in-Dial.output.0 o) (sym c.in-None.is)
    ∙ linked_when c.args.links.now.items c.args.note.now c.in-Dial.output _ c.in-Dial.link c.in-Dial.is
