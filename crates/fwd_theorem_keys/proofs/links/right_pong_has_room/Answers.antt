use Rattle.fwd_theorem_keys.proofs.LinkDial.{has_room}
use Rattle.fwd_theorem_keys.proofs.links.right_pong_has_room.Goals as goal

pub returns : goal.returns
returns c = λ keys ring output tag link below before since k carries new keyed open_link.
    has_room keys ring output keyed tag link below before since k carries new open_link
