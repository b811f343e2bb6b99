use Rattle.std.proofs.Common.{sym}
use Rattle.std.specs.Prelude.{nat_lt}
use Rattle.fwd_engine_state.proofs.state.State.has_place.Goals as goal

pub returns : goal.returns
returns c s h out before is = λ i. nat_lt (c.flights_to.ensures s h out before i) (sym is i)
