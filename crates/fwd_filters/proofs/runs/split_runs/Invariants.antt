use Rattle.std.proofs.Common.{◌≡◌, ◌++◌}
use Rattle.std.specs.List.{flat_map}
use Rattle.fwd_filters.specs.declared.runs.Run.{Run}
use Rattle.fwd_filters.proofs.runs.split_runs.Given as goal

abbrev pub invariant-loop-event : goal.invariant-loop-event
invariant-loop-event l = flat_map (λ (run : Run). run.events) l.runs.items ++ l.run.events ≡ l.yielded
