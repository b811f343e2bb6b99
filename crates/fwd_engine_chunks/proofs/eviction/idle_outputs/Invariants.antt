use Rattle.std.proofs.Common.{◌≡◌, Option, map, filter}
use Rattle.std.specs.List.{range_with_len}
use Rattle.fwd_model.specs.Fact.{History, Route}
use Rattle.fwd_model.specs.Routes.{route, is_idle}
use Rattle.fwd_engine_state.specs.StateRepresents.{StateRepresents}
use Rattle.fwd_engine_chunks.proofs.eviction.idle_outputs.Given as goal

abbrev pub invariant-loop-number : goal.invariant-loop-number
invariant-loop-number l =
    (h : History) (out : Option Route) → StateRepresents l.run l.state h out → map (λ output. output.0) l.outputs.items ≡ filter (λ output. is_idle l.run h (route l.chunk.0 output)) (range_with_len 0 l.number)
