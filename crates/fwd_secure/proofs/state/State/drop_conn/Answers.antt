use Rattle.std.proofs.Common.{not}
use Rattle.fwd_secure.specs.Kept.{is_of_conn}
use Rattle.fwd_secure.proofs.KeptLists.{filter_pieces}
use Rattle.fwd_secure.proofs.state.State.drop_conn.Goals as goal

pub invariant_of-self : goal.invariant_of-self
invariant_of-self c = rw c.forget_conn.ensures (filter_pieces (λ bytes. not (is_of_conn c.args.conn.0 bytes)) c.self.inside.kept.items c.self.invariant)
