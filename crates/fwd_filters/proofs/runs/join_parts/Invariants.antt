use Rattle.std.proofs.Common.{◌≡◌}
use Rattle.std.specs.List.{flat_map}
use Rattle.fwd_filters.specs.declared.runs.FilteredRun.{FilteredRun}
use Rattle.fwd_filters.proofs.runs.join_parts.Given as goal

abbrev pub invariant-loop-part : goal.invariant-loop-part
invariant-loop-part l = l.all.items ≡ flat_map (λ (part : FilteredRun). part.left) l.yielded
