use Rattle.fwd_secure.proofs.KeptLists.{push_pieces}
use Rattle.fwd_secure.proofs.state.State.keep.Goals as goal

pub invariant_of-self-2 : goal.invariant_of-self-2
invariant_of-self-2 c = rw c.in_ok-push.ensures.items (push_pieces c.self.inside.kept.items c.args.bytes c.self.invariant c.requires)
