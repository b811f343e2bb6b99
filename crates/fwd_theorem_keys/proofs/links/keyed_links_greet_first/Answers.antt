use Rattle.fwd_theorem_keys.proofs.LinkDial.{greets_first}
use Rattle.fwd_theorem_keys.proofs.links.keyed_links_greet_first.Goals as goal

pub returns : goal.returns
returns c = λ keys ring output tag link below before since k carries new keyed open_link.
    greets_first keys ring output keyed tag link below before since k carries new open_link
