-- Contract views of the parts of a state.
use Rattle.std.specs.Prelude.{ℕ, Option, List}
use Rattle.std.specs.Ordering.{nat_cmp}
use Rattle.std.specs.BTreeMap.{get}
use Rattle.fwd_base.specs.declared.ids.ChunkId.{ChunkId}
use Rattle.fwd_base.specs.declared.ids.OutputId.{OutputId}
use Rattle.fwd_table.specs.Row.{Row}
use Rattle.fwd_model.specs.Fact.{Route}
use Rattle.fwd_model.specs.Routes.{route}
use Rattle.fwd_engine_state.specs.declared.flush_attempts.FlushAttempt.{FlushAttempt}
use Rattle.fwd_engine_state.specs.declared.flush_attempts.FlushAttempts.{FlushAttempts}
use Rattle.fwd_engine_state.specs.declared.flush_attempts.RouteId.{RouteId}

-- the rows of the chunks, the greatest chunk number so far, and for how many more rows memory is reserved
pub record ChunksSeen : Type 0 where
  pub rows : List Row
  pub top : ℕ
  pub spare : ℕ

abbrev pub chunk_id : ℕ → ChunkId
chunk_id n = record { 0 = n }

abbrev pub output_id : ℕ → OutputId
output_id n = record { 0 = n }

-- the flush attempt over a connection
abbrev pub attempt_over : ℕ → FlushAttempts → Option FlushAttempt
attempt_over link flights = get nat_cmp flights.flights link

abbrev pub route_of : RouteId → Route
route_of r = route r.chunk.0 r.output.0
