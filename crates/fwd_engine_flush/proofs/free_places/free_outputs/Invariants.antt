-- The mask has exactly the outputs so far that have a free place.
use Rattle.std.proofs.Common.{Option}
use Rattle.fwd_model.specs.Fact.{History, Route}
use Rattle.fwd_engine_state.specs.StateRepresents.{StateRepresents}
use Rattle.fwd_engine_flush.specs.FreePlaces.{is_free}
use Rattle.fwd_engine_flush.proofs.FreeMasks.{IsMaskBelow}
use Rattle.fwd_engine_flush.proofs.free_places.free_outputs.Given as goal

abbrev pub invariant-loop-i : goal.invariant-loop-i
invariant-loop-i l = (h : History) (out : Option Route) → StateRepresents l.run l.state h out → IsMaskBelow (is_free l.run h) l.i l.mask
