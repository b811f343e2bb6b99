use Rattle.fwd_theorem_keys.proofs.LinkDial.{again_before}
use Rattle.fwd_theorem_keys.proofs.links.again_before_the_pong.Goals as goal

pub returns : goal.returns
returns c = λ keys ring output tag link bytes below before since k carries new keyed open_link.
    again_before keys ring output keyed tag link below before since k bytes carries new open_link
